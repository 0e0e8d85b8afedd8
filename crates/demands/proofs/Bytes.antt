-- What the bytes of an answer tell of it.
-- Assumes nothing.
use mathlib.Core.Path.{◌≡◌, refl}
use mathlib.Core.Logic.{inl, inr}
use mathlib.Core.Bool.{Bool, true, false, ◌&&◌, ◌||◌}
use Prim.Native.Nat.{ℕ}
use lib.Dec.{eqb}
use Rattle.std.specs.Prelude.{Ok, Err}
use Rattle.buffer.specs.Number.{bytes_of}
use Rattle.frame.specs.Frame.{framed, control_frame, write_frame, frame_error}
use Rattle.commands.specs.declared.Command.{Command}
use Rattle.commands.specs.declared.Command.TheVariants.{WriteStart, WriteEnd}
use Rattle.commands.specs.Command.{response_code}
use Rattle.exchange.specs.declared.answer.Answer.TheVariants.{FrameError, ParameterError, Response, BankIs, VersionIs, Written}
use Rattle.exchange.specs.Answer.{Reply, answer_bytes, reply_bytes}
use Rattle.client.specs.Perform.{Accepted}
use Rattle.decision.proofs.Leading.{Quiet}
use Rattle.demands.specs.Session.{is_begin, ends_session, is_stored}

either : (a b c : Bool) → (a && (b || c)) ≡ false → ((a && b) || (a && c)) ≡ false
either true b c e = e
either false b c e = refl

-- ---- no answer, or one that tells of no session begun or ended, and of no sector stored

pub quiet_begin : (reply : Reply) → Quiet reply → is_begin (reply_bytes reply) ≡ false
unfolding answer_bytes control_frame write_frame framed frame_error
quiet_begin (Err why) q = refl
quiet_begin (Ok FrameError) q = refl
quiet_begin (Ok ParameterError) q = refl
quiet_begin (Ok (Response command result)) q = q.0
quiet_begin (Ok (BankIs bank)) q = refl
quiet_begin (Ok (VersionIs major minor revision)) q = refl
quiet_begin (Ok (Written sector result write crc)) q = refl

pub quiet_end : (reply : Reply) → Quiet reply → ends_session (reply_bytes reply) ≡ false
unfolding answer_bytes control_frame write_frame framed frame_error
quiet_end (Err why) q = refl
quiet_end (Ok FrameError) q = refl
quiet_end (Ok ParameterError) q = refl
quiet_end (Ok (Response command result)) q = either (eqb (response_code command) 0x75) (eqb result 0x06) (eqb result 0x1E) q.1
quiet_end (Ok (BankIs bank)) q = refl
quiet_end (Ok (VersionIs major minor revision)) q = refl
quiet_end (Ok (Written sector result write crc)) q = refl

pub quiet_stored : (reply : Reply) → Quiet reply → is_stored (reply_bytes reply) ≡ false
unfolding answer_bytes control_frame write_frame framed frame_error bytes_of
quiet_stored (Err why) q = refl
quiet_stored (Ok FrameError) q = refl
quiet_stored (Ok ParameterError) q = refl
quiet_stored (Ok (Response command result)) q = refl
quiet_stored (Ok (BankIs bank)) q = refl
quiet_stored (Ok (VersionIs major minor revision)) q = refl
quiet_stored (Ok (Written sector result write crc)) q = q

-- ---- the others

pub response_begin : is_begin (answer_bytes (Response WriteStart 0x06)) ≡ true
unfolding answer_bytes control_frame framed
response_begin = refl

pub response_start_end : ends_session (answer_bytes (Response WriteStart 0x06)) ≡ false
unfolding answer_bytes control_frame framed
response_start_end = refl

pub ended_begin : (result : ℕ) → is_begin (answer_bytes (Response WriteEnd result)) ≡ false
unfolding answer_bytes control_frame framed
ended_begin result = refl

pub response_stored : (command : Command) (result : ℕ) → is_stored (answer_bytes (Response command result)) ≡ false
unfolding answer_bytes control_frame framed
response_stored command result = refl

pub written_begin : (sector result write crc : ℕ) → is_begin (answer_bytes (Written sector result write crc)) ≡ false
unfolding answer_bytes write_frame framed
written_begin sector result write crc = refl

pub written_end : (sector result write crc : ℕ) → ends_session (answer_bytes (Written sector result write crc)) ≡ false
unfolding answer_bytes write_frame framed
written_end sector result write crc = refl

pub written_stored : (sector write crc : ℕ) → Accepted write → is_stored (answer_bytes (Written sector 0x06 write crc)) ≡ true
unfolding answer_bytes write_frame framed bytes_of
written_stored sector write crc (inl e) = rw e
written_stored sector write crc (inr e) = rw e
