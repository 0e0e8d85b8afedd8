-- From the contracts to the demands: what a public function's contract allows of its result and of lent memory is the very outcome of the machine,
-- the maker or the reader of which a demand is proved. One line for each such function.
-- Assumes nothing.
use Rattle.std.specs.Prelude.{◌≡◌, List, ℕ, length, Result, Option}
use Rattle.layout.specs.declared.Bank.{Bank}
use Rattle.layout.specs.Layout.{bank_size}
use Rattle.layout.specs.Pair.{Banks, banks, bank_in}
use Rattle.bank.specs.Said.{IsCheck}
use Rattle.bank.specs.Sound.{Verdict, verdict_of}
use Rattle.clean.specs.Clean.{Cleaned, IsClean}
use Rattle.clean.specs.Meaning.{cleaned, cleaner}
use Rattle.hex_text.specs.declared.read.ReadError.{ReadError}
use Rattle.hex_text.specs.Read.{text_read}
use Rattle.hex_text.specs.Read.{IsRead as IsReadText}
use Rattle.rows.specs.Text.{length_of, IsLength, IsWrite}
use Rattle.sender.specs.declared.made.Place.{Place}
use Rattle.sender.specs.declared.made.Refusal.{Refusal as Unmade}
use Rattle.sender.specs.declared.request.Request.{Request}
use Rattle.sender.specs.Packet.{tally_of, placed_of, IsCount, IsPlace, IsPacket}
use Rattle.sender.specs.Request.{IsRequest}
use Rattle.response.specs.declared.read.Response.{Response}
use Rattle.response.specs.Response.{response_of}
use Rattle.response.specs.Said.{IsResponse}
use Rattle.night.specs.declared.record.Called.{Called}
use Rattle.night.specs.declared.record.Night.{Night}
use Rattle.night.specs.Call.{Heard, Silence}
use Rattle.night.specs.Call.{IsHeard as IsNightHeard}
use Rattle.night.specs.Call.{IsSilent as IsNightSilent}
use Rattle.night.specs.Call.{IsStart as IsNightStart}
use Rattle.exchange.specs.Answer.{answer_number}
use Rattle.client.specs.declared.host.Hosted.{Hosted}
use Rattle.client.specs.declared.record.Client.{Client}
use Rattle.client.specs.declared.step.Stepped.{Stepped}
use Rattle.client.specs.Body.{next_body}
use Rattle.client.specs.Body.{IsBody as IsNextBody}
use Rattle.client.specs.Host.{new_of, IsNew, IsInitiate, IsTerminate}
use Rattle.client.specs.Step.{Carried, IsTake, IsStep}
use Rattle.calls.specs.Call.{Board, board}
use Rattle.demands.specs.Board.{LentCall, Initiate, Terminate, Datagram, Outcome, lent_of, back_in, lent_target, host_outcome, call_outcome, step_machine}
use Rattle.demands.specs.Night.{Told as NightTold}
use Rattle.demands.specs.Night.{night_sender}
use Rattle.demands.specs.Packets.{out, packet_maker}
use Rattle.demands.specs.Requests.{request_maker}
use Rattle.demands.specs.Written.{wrote, text_writer}

-- what the contracts of `step` and `take` allow for a call on a board
abbrev pub StepAllows : Board → LentCall → Stepped → List ℕ → List ℕ → List ℕ → Type 0
StepAllows b call r zero one answered =
    let lent : Banks = lent_of call.lent b.pair in
    IsStep b.client lent.bank0 lent.bank1 call.marks call.address call.buffer call.datagram r zero one answered

abbrev pub TakeAllows : Board → LentCall → Stepped → List ℕ → List ℕ → Type 0
TakeAllows b call r after answered =
    IsTake b.client (lent_target b call) call.marks call.address call.buffer call.datagram r after answered

-- what `step` handed back, and both banks and the buffer as they came back
abbrev pub step_back : Board → LentCall → Stepped → List ℕ → List ℕ → List ℕ → Outcome
step_back b call r zero one answered =
    record {
      board = board r.client (back_in call.lent b.pair (banks zero one));
      number = answer_number r.answer;
      told = r.length;
      buffer = answered;
      notice = r.notice;
    }

-- what `take` handed back, and the target and the buffer as they came back
abbrev pub take_back : Stepped → List ℕ → List ℕ → Carried
take_back r after answered =
    record { client = r.client; answer = r.answer; told = r.length; notice = r.notice; target = after; buffer = answered }

-- what a call of the night sender handed back, and the request buffer as it came back
abbrev pub told_back : Called → List ℕ → NightTold Night
told_back r after = record { record_then = r.night; next = r.next; buffer = after }

pub record Contracts : Type 0 where
  -- the client, of which demands 1 to 3 are proved; `take` is lent the target alone, of a board whose running bank has its length
  pub step : (b : Board) (call : LentCall) {r : Stepped} {zero one answered : List ℕ}
      → StepAllows b call r zero one answered
      → step_machine b (Datagram call) ≡ step_back b call r zero one answered
  pub take_call : (b : Board) (call : LentCall) {r : Stepped} {after answered : List ℕ}
      → length (bank_in b.client.fixed.running (lent_of call.lent b.pair)) ≡ bank_size b.client.fixed.n
      → TakeAllows b call r after answered
      → step_machine b (Datagram call) ≡ call_outcome b call (take_back r after answered)
  pub initiate : (b : Board) {r : Hosted} → IsInitiate b.client r → step_machine b Initiate ≡ host_outcome b r
  pub terminate : (b : Board) {r : Hosted} → IsTerminate b.client r → step_machine b Terminate ≡ host_outcome b r
  pub new : {n : ℕ} {running : Bank} {major minor revision : ℕ} {r : Hosted}
      → IsNew n running major minor revision r → new_of n running major minor revision ≡ r
  -- banks
  pub check : {bank : List ℕ} {r : Verdict} → IsCheck bank r → verdict_of bank ≡ r
  pub clean : {bank runs sectors : List ℕ} {r : Cleaned} {bank' runs' sectors' : List ℕ}
      → IsClean bank runs sectors r bank' runs' sectors' → cleaner bank runs sectors ≡ cleaned r bank' runs' sectors'
  pub next_body_is : (c : Client) (bank0 bank1 : List ℕ) (i : ℕ) {r : List ℕ} → IsNextBody c bank0 bank1 i r → next_body c bank0 bank1 i ≡ r
  -- hex text
  pub read_text : {text : List ℕ} {bank : Bank} {n : ℕ} {before after : List ℕ} {r : Result (Unit {0}) ReadError}
      → IsReadText text bank n before after r → text_read text bank n before ≡ record { answer = r; image = after }
  pub text_length : {image : List ℕ} {bank : Bank} {r : Option ℕ} → IsLength image bank r → length_of image bank ≡ r
  pub write_text : {image : List ℕ} {bank : Bank} {before : List ℕ} {r : Option ℕ} {after : List ℕ}
      → IsWrite image bank before r after → text_writer image bank before ≡ wrote r after
  -- the sender
  pub count : {image : List ℕ} {n : ℕ} {r : Result ℕ Unmade} → IsCount image n r → tally_of image n ≡ r
  pub packet : {image : List ℕ} {n p : ℕ} {before : List ℕ} {r : Result ℕ Unmade} {after : List ℕ}
      → IsPacket image n p before r after → packet_maker image n p before ≡ out r after
  pub request : {request : Request} {before : List ℕ} {r : Result ℕ Unmade} {after : List ℕ}
      → IsRequest request before r after → request_maker request before ≡ out r after
  pub place : {image : List ℕ} {n p : ℕ} {r : Result Place Unmade} → IsPlace image n p r → placed_of image n p ≡ r
  -- the night sender
  pub night_start : {image : List ℕ} {bank : Bank} {n tries : ℕ} {before : List ℕ} {r : Called} {after : List ℕ}
      → IsNightStart image bank n tries before r after → night_sender.start image bank n tries before ≡ told_back r after
  pub night_heard : {night : Night} {datagram image before : List ℕ} {r : Called} {after : List ℕ}
      → IsNightHeard night datagram image before r after → night_sender.event night (Heard datagram) image before ≡ told_back r after
  pub night_silent : {night : Night} {image before : List ℕ} {r : Called} {after : List ℕ}
      → IsNightSilent night image before r after → night_sender.event night Silence image before ≡ told_back r after
  -- what comes back to either
  pub read_response : {datagram : List ℕ} {r : Option Response} → IsResponse datagram r → response_of datagram ≡ r
