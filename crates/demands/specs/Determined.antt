-- Every public function's contract, and every conversion's, leaves one outcome: any two that it allows are the same (01, 'How much each function
-- must say', "proved equal"). One line for each relation that such a contract cites; those of
-- `exports` alone stand in its own Determined.antt.
-- Assumes nothing.
use Rattle.std.specs.Prelude.{Bool, List, ℕ, Option, Result}
use Rattle.std.specs.Borrow.{Bor}
use Rattle.outcomes.specs.Once.{Once, Twice, Thrice, Fourfold}
use Rattle.frame.specs.declared.read.Footer.{Footer}
use Rattle.layout.specs.declared.Bank.{Bank}
use Rattle.lines.specs.declared.line.LineReader.{LineReader}
use Rattle.hex_text.specs.declared.fault.Kind.{Kind}
use Rattle.hex_text.specs.declared.read.ReadError.{ReadError}
use Rattle.bank.specs.declared.check.Fault.{Fault}
use Rattle.clean.specs.declared.Refusal.{Refusal as CleanRefusal}
use Rattle.sender.specs.declared.made.Refusal.{Refusal as Unmade}
use Rattle.sender.specs.declared.request.Request.{Request}
use Rattle.commands.specs.declared.Command.{Command}
use Rattle.response.specs.declared.read.Response.{Response}
use Rattle.night.specs.declared.record.Night.{Night}
use Rattle.night.specs.declared.record.Next.{Next}
use Rattle.night.specs.declared.record.Refusal.{Refusal as NightRefusal}
use Rattle.exchange.specs.declared.answer.Refusal.{Refusal}
use Rattle.exchange.specs.declared.request.Unasked.{Unasked}
use Rattle.exchange.specs.declared.request.Request.{Request as Received}
use Rattle.exchange.specs.declared.state.State.{State}
use Rattle.decision.specs.declared.plan.Standing.{Standing}
use Rattle.client.specs.declared.record.Client.{Client}
use Rattle.client.specs.declared.host.NotDone.{NotDone}
use Rattle.client.specs.declared.record.Latest.{Latest}
use Rattle.script.specs.declared.line.Turn.{Turn}
use Rattle.script.specs.declared.room.Room.{Room}
use Rattle.buffer.specs.Compare.{IsSame, IsBlank}
use Rattle.buffer.specs.Fill.{IsFill}
use Rattle.buffer.specs.Number.{IsNumber, IsPutNumber}
use Rattle.buffer.specs.Place.{IsPlace, IsFront}
use Rattle.crc.specs.Crc.{IsCrcMore, IsCrc32}
use Rattle.frame.specs.Checksum.{IsChecksum}
use Rattle.frame.specs.Frame.{IsFooterByte, IsFooterIn}
use Rattle.frame.specs.Read.{IsRead as IsReadFrame}
use Rattle.frame.specs.Read.{IsParameters, IsData}
use Rattle.frame.specs.Write.{IsPutControl, IsPutWrite, IsPutError}
use Rattle.flash.specs.declared.sector.Store.{Store}
use Rattle.flash.specs.Bank.{IsStore, IsWriteAt, IsSweep}
use Rattle.layout.specs.Layout.{IsGoodN, IsBankSize, IsSectors, IsBankNumber, IsNumberedBank, IsOther, IsStart, IsEnd, IsSectorOffset}
use Rattle.digits.specs.Digit.{IsValue, IsDigit}
use Rattle.bank.specs.declared.gaps.Gap.{Gap}
use Rattle.bank.specs.Gaps.{IsGapSlice, IsGaps}
use Rattle.bank.specs.Listed.{IsBodyCount, IsStretchAt}
use Rattle.bank.specs.Said.{IsContents, IsCheck}
use Rattle.bank.specs.Sound.{IsBody}
use Rattle.clean.specs.Clean.{IsRefusalOf, IsCleanNumber, IsClean}
use Rattle.lines.specs.Places.{IsReader, IsNext}
use Rattle.hex_text.specs.Read.{IsKindNumber, IsAnswerNumber}
use Rattle.hex_text.specs.Read.{IsRead as IsReadText}
use Rattle.rows.specs.Text.{IsWrittenNumber, IsLength, IsWrite}
use Rattle.sender.specs.Made.{IsRefusalNumber as IsUnmadeNumber}
use Rattle.sender.specs.Packet.{IsCount, IsPacket}
use Rattle.sender.specs.Packet.{IsPlace as IsPlacePacket}
use Rattle.sender.specs.Request.{IsCommandOf, IsRequest}
use Rattle.response.specs.Said.{IsResponseNumber, IsResponse}
use Rattle.night.specs.Call.{IsStart as IsNightStart}
use Rattle.night.specs.Call.{IsHeard as IsNightHeard}
use Rattle.night.specs.Call.{IsSilent as IsNightSilent}
use Rattle.night.specs.Record.{IsRefusalNumber as IsNightNumber}
use Rattle.night.specs.Record.{IsTakenOver, IsNextNumber}
use Rattle.commands.specs.Command.{IsRequestCode, IsResponseCode, IsParameterBytes, IsAddedBytes, IsRequested, IsAnswered}
use Rattle.exchange.specs.Answer.{Reply, IsRefusalNumber, IsSay}
use Rattle.exchange.specs.State.{IsClosed, IsOpen}
use Rattle.exchange.specs.Request.{IsAsked, IsFitsState, IsDeclined}
use Rattle.decision.specs.Plan.{IsPlan}
use Rattle.client.specs.Body.{IsBody as IsNextBody}
use Rattle.client.specs.Host.{Told, IsReasonNumber, IsTold, IsNew, IsInitiate, IsTerminate}
use Rattle.client.specs.Notice.{MaybeNotice, IsLatestNumber, IsNoticeCode}
use Rattle.client.specs.Step.{IsTake, IsStep}
use Rattle.script.specs.Text.{IsFirst, IsRest, IsEndsInBlank}
use Rattle.script.specs.Spelt.{IsHex, IsDecimal, IsByte, IsBytes, IsBank}
use Rattle.script.specs.Line.{IsBefore, IsHeld}
use Rattle.script.specs.Room.{IsFilled, IsPart, IsLend}

pub record Determined : Type 0 where
  -- lent bytes
  pub same : (a b : List ℕ) → Once (IsSame a b)
  pub blank : (a : List ℕ) → Once (IsBlank a)
  pub fill : (before : List ℕ) (byte : ℕ) → Once (IsFill before byte)
  pub number : (w : ℕ) (bytes : List ℕ) (at : ℕ) → Once (IsNumber w bytes at)
  pub put_number : (w : ℕ) (before : List ℕ) (at number : ℕ) → Once (IsPutNumber w before at number)
  pub place : (before : List ℕ) (at : ℕ) (bytes : List ℕ) → Once (IsPlace before at bytes)
  pub front : (before bytes : List ℕ) → Once (IsFront before bytes)
  -- CRC-32
  pub crc_more : (register : ℕ) (part : List ℕ) → Once (IsCrcMore register part)
  pub crc32 : (bytes : List ℕ) → Once (IsCrc32 bytes)
  -- frames
  pub checksum : (bytes : List ℕ) → Once (IsChecksum bytes)
  pub read_frame : (datagram : List ℕ) → Once (IsReadFrame datagram)
  pub parameters_in : (datagram : List ℕ) → Once (IsParameters datagram)
  pub data_in : (datagram : List ℕ) → Once (IsData datagram)
  pub footer_byte : (footer : Footer) → Once (IsFooterByte footer)
  pub footer_in : (byte : ℕ) → Once (IsFooterIn byte)
  pub put_control : (before : List ℕ) (code : ℕ) (parameters : List ℕ) → Once (IsPutControl before code parameters)
  pub put_write : (before : List ℕ) (sector : ℕ) (bytes : List ℕ) (footer : Footer) → Once (IsPutWrite before sector bytes footer)
  pub put_error : (before : List ℕ) → Once (IsPutError before)
  -- sectors
  pub store : (before : List ℕ) (k : ℕ) (store : Store) → Once (IsStore before k store)
  pub write_at : (before : List ℕ) (k : ℕ) (bytes : List ℕ) → Twice (IsWriteAt before k bytes)
  pub sweep : (before : List ℕ) (n : ℕ) (received : List Bool) → Once (IsSweep before n received)
  -- banks
  pub good_n : (n : ℕ) → Once (IsGoodN n)
  pub bank_size : (n : ℕ) → Once (IsBankSize n)
  pub sectors : (length : ℕ) → Once (IsSectors length)
  pub bank_number : (bank : Bank) → Once (IsBankNumber bank)
  pub numbered_bank : (k : ℕ) → Once (IsNumberedBank k)
  pub other : (bank : Bank) → Once (IsOther bank)
  pub start : (bank : Bank) → Once (IsStart bank)
  pub end : (bank : Bank) (n : ℕ) → Once (IsEnd bank n)
  pub sector_offset : (k : ℕ) → Once (IsSectorOffset k)
  pub body_count : (bank : List ℕ) → Once (IsBodyCount bank)
  pub stretch_at : (bank : List ℕ) (i : ℕ) → Once (IsStretchAt bank i)
  pub gaps : (bank : List ℕ) → Once (IsGaps bank)
  pub gap_slice : (gaps : List Gap) → Once (IsGapSlice gaps)
  pub contents : (bank : List ℕ) → Once (IsContents bank)
  pub check : (bank : List ℕ) → Once (IsCheck bank)
  pub body : (bank : List ℕ) (i : ℕ) → Once (IsBody bank i)
  pub refusal_of : (fault : Fault) → Once (IsRefusalOf fault)
  pub clean_number : (refusal : CleanRefusal) → Once (IsCleanNumber refusal)
  pub clean : (bank runs sectors : List ℕ) → Fourfold (IsClean bank runs sectors)
  -- hex text
  pub value : (byte : ℕ) → Once (IsValue byte)
  pub digit : (value : ℕ) → Once (IsDigit value)
  pub reader_at : (text : Bor (List ℕ)) (at : ℕ) → Once (IsReader text at)
  pub next_line : (reader : LineReader) → Once (IsNext reader)
  pub kind_number : (kind : Kind) → Once (IsKindNumber kind)
  pub answer_number : (answer : Result (Unit {0}) ReadError) → Once (IsAnswerNumber answer)
  pub unmade_number : (why : Unmade) → Once (IsUnmadeNumber why)
  pub response_number : (response : Option Response) → Once (IsResponseNumber response)
  pub read_text : (text : List ℕ) (bank : Bank) (n : ℕ) (before : List ℕ) → Twice (IsReadText text bank n before)
  pub written_number : (written : Option ℕ) → Once (IsWrittenNumber written)
  pub text_length : (image : List ℕ) (bank : Bank) → Once (IsLength image bank)
  pub write_text : (image : List ℕ) (bank : Bank) (before : List ℕ) → Twice (IsWrite image bank before)
  -- the sender
  pub count : (image : List ℕ) (n : ℕ) → Once (IsCount image n)
  pub packet : (image : List ℕ) (n p : ℕ) (before : List ℕ) → Twice (IsPacket image n p before)
  pub place_of_packet : (image : List ℕ) (n p : ℕ) → Once (IsPlacePacket image n p)
  pub command_of : (request : Request) → Once (IsCommandOf request)
  pub request : (request : Request) (before : List ℕ) → Twice (IsRequest request before)
  pub read_response : (datagram : List ℕ) → Once (IsResponse datagram)
  -- the night sender
  pub taken_over : (why : Unmade) → Once (IsTakenOver why)
  pub night_number : (why : NightRefusal) → Once (IsNightNumber why)
  pub next_number : (next : Result Next NightRefusal) → Once (IsNextNumber next)
  pub night_start : (image : List ℕ) (bank : Bank) (n tries : ℕ) (before : List ℕ) → Twice (IsNightStart image bank n tries before)
  pub night_heard : (night : Night) (datagram image before : List ℕ) → Twice (IsNightHeard night datagram image before)
  pub night_silent : (night : Night) (image before : List ℕ) → Twice (IsNightSilent night image before)
  -- the table of the commands
  pub request_code : (command : Command) → Once (IsRequestCode command)
  pub response_code : (command : Command) → Once (IsResponseCode command)
  pub parameter_bytes : (command : Command) → Once (IsParameterBytes command)
  pub added_bytes : (command : Command) → Once (IsAddedBytes command)
  pub requested : (code : ℕ) → Once (IsRequested code)
  pub answered : (code : ℕ) → Once (IsAnswered code)
  -- what is asked and answered
  pub asked : (datagram : List ℕ) → Once (IsAsked datagram)
  pub is_closed : (state : State) → Once (IsClosed state)
  pub is_open : (state : State) → Once (IsOpen state)
  pub fits_state : (state : State) (request : Received) → Once (IsFitsState state request)
  pub declined : (request : Received) → Once (IsDeclined request)
  pub refusal_number : (why : Refusal) → Once (IsRefusalNumber why)
  pub say : (reply : Reply) (before : List ℕ) → Twice (IsSay reply before)
  -- the client
  pub plan : (standing : Standing) (target : ℕ) (marks address : List ℕ) (buffer : ℕ) (asked : Result Received Unasked) → Once (IsPlan standing target marks address buffer asked)
  pub reason_number : (why : NotDone) → Once (IsReasonNumber why)
  pub told_number : (told : Told) → Once (IsTold told)
  pub notice_code : (notice : MaybeNotice) → Once (IsNoticeCode notice)
  pub latest_number : (latest : Latest) → Once (IsLatestNumber latest)
  pub new : (n : ℕ) (running : Bank) (major minor revision : ℕ) → Once (IsNew n running major minor revision)
  pub initiate : (c : Client) → Once (IsInitiate c)
  pub terminate : (c : Client) → Once (IsTerminate c)
  pub take_call : (c : Client) (target marks address buffer datagram : List ℕ) → Thrice (IsTake c target marks address buffer datagram)
  pub step : (c : Client) (bank0 bank1 marks address buffer datagram : List ℕ) → Fourfold (IsStep c bank0 bank1 marks address buffer datagram)
  pub next_body_is : (c : Client) (bank0 bank1 : List ℕ) (i : ℕ) → Once (IsNextBody c bank0 bank1 i)
  -- lines and fields, for the programs
  pub first_field : (text : List ℕ) → Once (IsFirst text)
  pub other_fields : (text : List ℕ) → Once (IsRest text)
  pub ends_in_blank : (text : List ℕ) → Once (IsEndsInBlank text)
  pub hex_number : (text : List ℕ) (digits : ℕ) → Once (IsHex text digits)
  pub decimal_number : (text : List ℕ) (most : ℕ) → Once (IsDecimal text most)
  pub byte_field : (text : List ℕ) → Once (IsByte text)
  pub bank_field : (text : List ℕ) → Once (IsBank text)
  pub spelt_bytes : (text before : List ℕ) → Twice (IsBytes text before)
  pub before_lines : Once IsBefore
  pub held_line : (line : List ℕ) (turn : Turn) → Once (IsHeld line turn)
  pub room_filled : (n byte lent : ℕ) → Once (IsFilled n byte lent)
  pub room_part : (n : ℕ) (room : Room n) → Once (IsPart n room)
  pub room_lent : (n : ℕ) (before : Room n) (count : ℕ) → Twice (IsLend n before count)
