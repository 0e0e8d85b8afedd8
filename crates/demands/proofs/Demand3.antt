-- Demand 3 is met: the plan is one on both boards, since it sees no more of a bank than its length, and the end sees no more of a target
-- than the session showed.
-- Assumes nothing.
use mathlib.Core.Path.{◌≡◌, refl, sym, ap, subst, ◌∙◌}
use mathlib.Core.List.{List, [], ◌∷◌, ◌++◌}
use Prim.Native.Nat.{ℕ, ◌≤◌}
use lib.ListN.{length, drop}
use Rattle.buffer.specs.Place.{front_of}
use Rattle.buffer.proofs.Places.{front_fits}
use Rattle.frame.specs.Frame.{write_frame}
use Rattle.frame.specs.declared.read.Footer.TheVariants.{End}
use Rattle.std.specs.Prelude.{Ok}
use Rattle.exchange.specs.declared.answer.Answer.TheVariants.{Written}
use Rattle.client.specs.declared.record.Client.{Client}
use Rattle.layout.specs.declared.Bank.{Bank}
use Rattle.layout.specs.Layout.{other_of}
use Rattle.layout.specs.Pair.{Banks, bank_in}
use Rattle.exchange.specs.Answer.{written_bytes, answer_bytes, answer_number, Reply, reply_bytes}
use Rattle.client.specs.Step.{Carried, beside_of}
use Rattle.exchange.proofs.Saying.{written_long, told_whole}
use Rattle.decision.specs.declared.plan.Fixed.{Fixed}
use Rattle.calls.proofs.Courses.{Match, same, either, Alike as AlikeSteps}
use Rattle.calls.proofs.Leading.{Finishing}
use Rattle.calls.proofs.Beside.{step_alike, step_told, step_said, step_fits}
use Rattle.calls.specs.Call.{Board, board}
use Rattle.demands.specs.Board.{LentCall, Input, Initiate, Terminate, Datagram, said, after, outcomes, sectors_in, lent_of, lent_target, called, step_machine}
use Rattle.demands.specs.Session.{ends_session, all_blank, exchanged, noted, shown}
use Rattle.demands.specs.Demand3.{AlikeBytes, same as same_bytes, either as either-bytes, Alike, AllAlike, none, more, Meets3}
use Rattle.demands.proofs.Bytes.{written_begin, written_end, written_stored}
use Rattle.demands.proofs.Lending.{front_alike, lent_in}
use Rattle.demands.proofs.Sessions.{Shows, said_is, lent_shows, step_shows, step_closes}
use Rattle.demands.proofs.Demand1.{demand1}
use Rattle.demands.proofs.Steps.{machine_stays, lengths_kept, run_stays}

-- ---- two answers that match

module _ (c : Client) (running : ℕ) (a b marks address buffer datagram : List ℕ) where
  abbrev one : Carried
  one = beside_of c running a marks address buffer datagram

  abbrev two : Carried
  two = beside_of c running b marks address buffer datagram

  -- a write response fills the front; the rest is that of the buffer that was lent
  written_front : (r : Carried) (sector v crc : ℕ) → r.buffer ≡ front_of buffer (reply_bytes r.answer)
      → length (reply_bytes r.answer) ≤ length buffer
      → r.answer ≡ Ok (Written sector 0x06 v crc) → r.buffer ≡ write_frame sector (written_bytes 0x06 v crc) End ++ drop 13 buffer
  unfolding answer_bytes
  written_front r sector v crc s f e =
      s
      ∙ front_fits buffer (reply_bytes r.answer) f
      ∙ ap (λ (x : Reply). reply_bytes x ++ drop (length (reply_bytes x)) buffer) e
      ∙ ap (λ (n : ℕ). write_frame sector (written_bytes 0x06 v crc) End ++ drop n buffer) (written_long sector 0x06 v crc)

  matched : Match one.answer two.answer → AlikeBytes one.buffer two.buffer
  matched (same e) =
      same_bytes
      (step_said c running a marks address buffer datagram
      ∙ ap (λ (x : Reply). front_of buffer (reply_bytes x)) e
      ∙ sym (step_said c running b marks address buffer datagram))
  matched (either sector crc v w p q e f) =
      either-bytes sector crc v w (drop 13 buffer) p q
      (written_front one sector v crc (step_said c running a marks address buffer datagram) (step_fits c running a marks address buffer datagram) e)
      (written_front two sector w crc (step_said c running b marks address buffer datagram) (step_fits c running b marks address buffer datagram) f)

  as_long : Match one.answer two.answer → one.told ≡ two.told
  as_long m =
      step_told c running a marks address buffer datagram
      ∙ told_whole one.answer (length buffer) (step_fits c running a marks address buffer datagram)
      ∙ by m
      ∙ sym
      (step_told c running b marks address buffer datagram
      ∙ told_whole two.answer (length buffer) (step_fits c running b marks address buffer datagram))
    where
      by : Match one.answer two.answer → length (reply_bytes one.answer) ≡ length (reply_bytes two.answer)
      by (same e) = ap (λ (x : Reply). length (reply_bytes x)) e
      by (either sector crc v w p q e f) =
          ap (λ (x : Reply). length (reply_bytes x)) e
          ∙ written_long sector 0x06 v crc
          ∙ sym (ap (λ (x : Reply). length (reply_bytes x)) f ∙ written_long sector 0x06 w crc)

pub match_number : {a b : Reply} → Match a b → answer_number a ≡ answer_number b
match_number (same e) = ap answer_number e
match_number (either sector crc v w p q e f) = ap answer_number e ∙ sym (ap answer_number f)

-- the session shows the same, whichever of the two answers came
match_shown : (n : ℕ) (image datagram : List ℕ) {a b : Reply} → Match a b
    → exchanged n image datagram (reply_bytes a) ≡ exchanged n image datagram (reply_bytes b)
match_shown n image datagram (same e) = ap (λ (x : Reply). exchanged n image datagram (reply_bytes x)) e
match_shown n image datagram (either sector crc v w p q e f) =
    rw (e, f, written_begin sector 0x06 v crc, written_begin sector 0x06 w crc, written_stored sector v crc p, written_stored sector w crc q)

match_end : {a b : Reply} → Match a b → ends_session (reply_bytes a) ≡ ends_session (reply_bytes b)
match_end (same e) = ap (λ (x : Reply). ends_session (reply_bytes x)) e
match_end (either sector crc v w p q e f) =
    ap (λ (x : Reply). ends_session (reply_bytes x)) e
    ∙ written_end sector 0x06 v crc
    ∙ sym (ap (λ (x : Reply). ends_session (reply_bytes x)) f ∙ written_end sector 0x06 w crc)

-- ---- one input on two boards

pub record Twins (a b : Board) (image : List ℕ) : Type 0 where
  pub client : a.client ≡ b.client
  pub lengths : (x : Bank) → length (bank_in x a.pair) ≡ length (bank_in x b.pair)
  pub first : Shows a image
  pub second : Shows b image

pub record Stepped (a b : Board) (image : List ℕ) (i : Input) : Type 0 where
  pub alike : Alike (step_machine a i) (step_machine b i)
  pub shown_alike : noted a.client.fixed.n image i (step_machine a i) ≡ noted a.client.fixed.n image i (step_machine b i)
  pub end_alike : ends_session (said (step_machine a i)) ≡ ends_session (said (step_machine b i))

module _ (c : Client) (pa pb : Banks) (image : List ℕ) where
  abbrev a : Board
  a = board c pa

  abbrev b : Board
  b = board c pb

  lent_length : (call : LentCall) → Twins a b image → (x : Bank)
      → length (bank_in x (lent_of call.lent pa)) ≡ length (bank_in x (lent_of call.lent pb))
  lent_length call t x =
      ap length (lent_in call.lent pa x)
      ∙ front_alike (call.lent x) (bank_in x pa) (bank_in x pb) (t.lengths x)
      ∙ sym (ap length (lent_in call.lent pb x))

  abbrev runs : LentCall → Banks → ℕ
  runs call p = length (bank_in c.fixed.running (lent_of call.lent p))

  target_length : (call : LentCall) → Twins a b image → length (lent_target a call) ≡ length (lent_target b call)
  target_length call t = lent_length call t (other_of c.fixed.running)

  finishing : (call : LentCall) → Twins a b image → Finishing c (length (lent_target a call)) → Finishing c (length (lent_target b call))
  finishing call t f = record { writing = f.writing; good = f.good; whole = sym (target_length call t) ∙ f.whole }

  -- the call on the second board, seen with the first one's running bank: only its length counts
  abbrev beside : LentCall → Carried
  beside call = beside_of c (runs call pa) (lent_target b call) call.marks call.address call.buffer call.datagram

  same_runs : (call : LentCall) → Twins a b image → beside call ≡ called b call
  same_runs call t =
      ap (λ (n : ℕ). beside_of c n (lent_target b call) call.marks call.address call.buffer call.datagram)
      (lent_length call t c.fixed.running)

  alike_steps : (call : LentCall) → Twins a b image → AlikeSteps (called a call) (beside call)
  alike_steps call t =
      step_alike c (runs call pa) (lent_target a call) (lent_target b call) call.marks call.address call.buffer call.datagram
      (target_length call t)
      (λ f. lent_shows a call image t.first f ∙ sym (lent_shows b call image t.second (finishing call t f)))

  stepped : Twins a b image → (i : Input) → Stepped a b image i
  stepped t Initiate =
      record {
        alike = record { client = refl; number = refl; told = refl; notice = refl; buffer = same_bytes refl };
        shown_alike = refl;
        end_alike = refl;
      }
  stepped t Terminate =
      record {
        alike = record { client = refl; number = refl; told = refl; notice = refl; buffer = same_bytes refl };
        shown_alike = refl;
        end_alike = refl;
      }
  stepped t (Datagram call) =
      let q = same_runs call t in
      let s = alike_steps call t in
      let m : Match (called a call).answer (called b call).answer =
      subst (λ (r : Carried). Match (called a call).answer r.answer) q s.answer in
      let long =
      as_long c (runs call pa) (lent_target a call) (lent_target b call) call.marks call.address call.buffer call.datagram s.answer in
      let bytes =
      matched c (runs call pa) (lent_target a call) (lent_target b call) call.marks call.address call.buffer call.datagram s.answer in
      record {
        alike = record {
          client = s.client ∙ ap (λ (r : Carried). r.client) q;
          number = match_number m;
          told = long ∙ ap (λ (r : Carried). r.told) q;
          notice = s.notice ∙ ap (λ (r : Carried). r.notice) q;
          buffer = subst (λ (r : Carried). AlikeBytes (called a call).buffer r.buffer) q bytes;
        };
        shown_alike =
            ap (exchanged c.fixed.n image call.datagram) (said_is a call)
            ∙ match_shown c.fixed.n image call.datagram m
            ∙ sym (ap (exchanged c.fixed.n image call.datagram) (said_is b call));
        end_alike = ap ends_session (said_is a call) ∙ match_end m ∙ sym (ap ends_session (said_is b call));
      }

twins_step : (a b : Board) (image : List ℕ) (i : Input) → Twins a b image → Stepped a b image i
twins_step a b image i t =
    let e : board a.client b.pair ≡ b = λ k. record { client = t.client k; pair = b.pair } in
    let u : Twins a (board a.client b.pair) image =
    record { client = refl; lengths = t.lengths; first = t.first; second = subst (λ (x : Board). Shows x image) (sym e) t.second } in
    subst (λ (x : Board). Stepped a x image i) e (stepped a.client a.pair b.pair image u i)

twins_next : (a b : Board) (image : List ℕ) (i : Input) → Twins a b image
    → Twins (step_machine a i).board (step_machine b i).board (noted a.client.fixed.n image i (step_machine a i))
twins_next a b image i t =
    let s : Stepped a b image i = twins_step a b image i t in
    let n : b.client.fixed.n ≡ a.client.fixed.n = ap (λ (c : Client). c.fixed.n) (sym t.client) in
    record {
      client = s.alike.client;
      lengths = λ x. lengths_kept a i x ∙ t.lengths x ∙ sym (lengths_kept b i x);
      first = step_shows a image i t.first;
      second =
          subst (Shows (step_machine b i).board) (ap (λ (m : ℕ). noted m image i (step_machine b i)) n ∙ sym s.shown_alike)
          (step_shows b image i t.second);
    }

-- ---- a run of both

run_alike : (is : List Input) (a b : Board) (image : List ℕ) → Twins a b image → AllAlike (outcomes step_machine a is) (outcomes step_machine b is)
run_alike [] a b image t = none
run_alike (i ∷ is) a b image t = more (twins_step a b image i t).alike (run_alike is _ _ _ (twins_next a b image i t))

run_twins : (n : ℕ) (is : List Input) (a b : Board) (image : List ℕ) → a.client.fixed.n ≡ n → Twins a b image
    → Twins (after step_machine a is) (after step_machine b is) (shown n image is (outcomes step_machine a is))
run_twins n [] a b image e t = t
run_twins n (i ∷ is) a b image e t =
    run_twins n is (step_machine a i).board (step_machine b i).board (noted n image i (step_machine a i))
    (ap (λ (f : Fixed). f.n) (machine_stays a i) ∙ e)
    (subst (λ (m : ℕ). Twins (step_machine a i).board (step_machine b i).board (noted m image i (step_machine a i))) e (twins_next a b image i t))

pub demand3 : Meets3 step_machine
demand3 a b p is =
    let n : ℕ = a.client.fixed.n in
    let t : Twins a b (all_blank n) =
    record {
      client = p.client;
      lengths = p.lengths;
      first = λ s. absurd (p.resting s);
      second = λ s. absurd (p.resting (ap (λ (c : Client). c.state) p.client ∙ s));
    } in
    let u = run_twins n is a b (all_blank n) refl t in
    record {
      alike = run_alike is a b (all_blank n) t;
      first_kept = demand1.kept a is;
      second_kept = demand1.kept b is;
      ended = λ i e.
          let f = sym (twins_step _ _ _ i u).end_alike ∙ e in
          let na : (after step_machine a is).client.fixed.n ≡ n = ap (λ (f : Fixed). f.n) (run_stays is a) in
          let nb : (after step_machine b is).client.fixed.n ≡ n = ap (λ (c : Client). c.fixed.n) (sym u.client) ∙ na in
          record {
            other = f;
            first = ap (λ (m : ℕ). sectors_in m (step_machine (after step_machine a is) i).board) (sym na) ∙ step_closes _ _ i u.first e;
            second = ap (λ (m : ℕ). sectors_in m (step_machine (after step_machine b is) i).board) (sym nb) ∙ step_closes _ _ i u.second f;
          };
    }
