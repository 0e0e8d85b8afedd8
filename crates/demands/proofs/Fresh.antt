-- Demand 2 from the very beginning is met.
-- Assumes nothing.
use mathlib.Core.Path.{◌≡◌, refl, sym, ap, subst, ◌∙◌}
use mathlib.Core.List.{List, [], ◌∷◌}
use Prim.Native.Nat.{ℕ}
use Rattle.std.specs.Prelude.{Some}
use Rattle.buffer.specs.Number.{bytes_of}
use Rattle.frame.specs.Checksum.{taken_away, checksum_of}
use Rattle.frame.specs.Frame.{framed, control_frame}
use Rattle.frame.specs.Read.{read_of}
use Rattle.layout.specs.declared.Bank.{Bank}
use Rattle.layout.specs.Layout.{good_n}
use Rattle.layout.specs.Pair.{Banks}
use Rattle.decision.specs.declared.plan.Fixed.{Fixed}
use Rattle.sender.specs.declared.request.Request.TheVariants.{ModeStart, ModeEnd}
use Rattle.sender.specs.Request.{request_frame}
use Rattle.client.specs.declared.notice.Notice.TheVariants.{Started, Ended}
use Rattle.client.specs.declared.record.Latest.{Latest}
use Rattle.exchange.specs.State.{is_closed}
use Rattle.client.specs.declared.record.Client.{Client}
use Rattle.client.specs.Host.{fixed_of, new_of}
use Rattle.client.specs.Notice.{notice_bytes, latest_number}
use Rattle.client.specs.Record.{closed_client, initiated, opened, mode_ended}
use Rattle.calls.specs.Call.{Board, board}
use Rattle.demands.specs.Board.{LentCall, Input, Initiate, Datagram, Outcome, said, step_machine}
use Rattle.demands.specs.Demand1.{host_done, changed}
use Rattle.demands.specs.Demand2.{Lends, SentFrom, Ready, Fit, Delivery}
use Rattle.demands.specs.Fresh.{Fresh, in_mode, after_all, FreshRight, MeetsFresh}
use Rattle.demands.proofs.Asking.{request_read}
use Rattle.demands.proofs.Demand2.{Whole, heard, said_back, control_short, Over, over, demand2}
use Rattle.demands.proofs.Rows.{from_opener_lem, initiate, mode_start, mode_end}

pub started_bytes : control_frame 0x71 (0x06 ∷ []) ≡ 0x01 ∷ 0x02 ∷ 0x71 ∷ 0x06 ∷ 0x87 ∷ 0x03 ∷ []
unfolding control_frame framed checksum_of taken_away
started_bytes = refl

pub ended_bytes : control_frame 0x74 (0x06 ∷ []) ≡ 0x01 ∷ 0x02 ∷ 0x74 ∷ 0x06 ∷ 0x84 ∷ 0x03 ∷ []
unfolding control_frame framed checksum_of taken_away
ended_bytes = refl

module _ (n : ℕ) (running : Bank) (major minor revision : ℕ) (pair : Banks) (fresh : Fresh n pair) where
  abbrev new : Client
  new = closed_client (fixed_of n running major minor revision) running

  abbrev made : Board
  made = board (new_of n running major minor revision).client pair

  abbrev hosted : Board
  hosted = board (initiated new) pair

  initiated_is : step_machine made Initiate ≡ host_done hosted (initiated new)
  unfolding new_of
  initiated_is = initiate (board new pair) fresh.good refl

  module _ (mode : LentCall) (sent : mode.datagram ≡ request_frame ModeStart) (l : Lends n mode) where
    abbrev opened-board : Board
    opened-board = board (opened mode.address (initiated new)) pair

    mode-is : step_machine hosted (Datagram mode) ≡ changed hosted mode (opened mode.address hosted.client) (Some (Started mode.address)) (control_frame 0x71 (0x06 ∷ []))
    mode-is = mode_start hosted mode (heard hosted mode fresh.good l fresh.whole refl) refl (ap read_of sent ∙ request_read ModeStart)

    made-step : step_machine (step_machine made Initiate).board (Datagram mode) ≡ step_machine hosted (Datagram mode)
    made-step = ap (λ (o : Outcome). step_machine o.board (Datagram mode)) initiated_is

    in_mode_lem : in_mode step_machine made mode ≡ opened-board
    in_mode_lem = ap (λ (o : Outcome). o.board) (made-step ∙ mode-is)

    opened-ready : Ready (in_mode step_machine made mode)
    opened-ready = subst Ready (sym in_mode_lem) (record { good = fresh.good; control = refl; whole = fresh.whole })

    opener-in : (in_mode step_machine made mode).client.opener ≡ mode.address
    opener-in = ap (λ (b : Board). b.client.opener) in_mode_lem

    fixed_in : (in_mode step_machine made mode).client.fixed ≡ fixed_of n running major minor revision
    fixed_in = ap (λ (b : Board). b.client.fixed) in_mode_lem

    module _ (image : List ℕ) (fit : Fit image (fixed_of n running major minor revision)) (start : LentCall) (ps : List ℕ) (is : List Input) (end ending : LentCall)
        (from : Delivery mode.address (in_mode step_machine made mode) image start ps is end) (asks : ending.datagram ≡ request_frame ModeEnd)
        (comes : SentFrom mode.address n ending) where
      e : Lends n ending
      e = comes.lends

      d : Delivery (in_mode step_machine made mode).client.opener (in_mode step_machine made mode) image start ps is end
      d = subst (λ (a : List ℕ). Delivery a (in_mode step_machine made mode) image start ps is end) (sym opener-in) from

      own-fit : Fit image (in_mode step_machine made mode).client.fixed
      own-fit = subst (Fit image) (sym fixed_in) fit

      abbrev last : Board
      last = after_all step_machine made mode start is end

      done : Over (in_mode step_machine made mode).client.opener last (in_mode step_machine made mode).client.fixed
      done = over (in_mode step_machine made mode) image opened-ready own-fit start ps is end d

      fixed-last : last.client.fixed ≡ fixed_of n running major minor revision
      fixed-last = done.stays ∙ fixed_in

      end_is : step_machine last (Datagram ending)
          ≡ changed last ending (mode_ended last.client) (Some (Ended (latest_number last.client.latest) ending.address)) (control_frame 0x74 (0x06 ∷ []))
      end_is =
          mode_end last ending
          (heard last ending (ap (λ (f : Fixed). good_n f.n) fixed-last ∙ fresh.good) (subst (λ (f : Fixed). Lends f.n ending) (sym fixed-last) e)
          (subst (λ (f : Fixed). Whole f.n last.pair) (sym done.stays) done.whole) (ap is_closed done.control))
          (from_opener_lem last.client ending.address (comes.sender ∙ sym (done.opener ∙ opener-in))) done.control (ap read_of asks ∙ request_read ModeEnd)

      pub told : FreshRight step_machine made image mode start ps is end ending
      unfolding bytes_of
      told =
          record {
            initiated = ap (λ (o : Outcome). o.number) initiated_is;
            started = ap said (made-step ∙ mode-is) ∙ said_back mode (control_frame 0x71 (0x06 ∷ [])) (control_short 0x71 0x06) l.room ∙ started_bytes;
            start_notice = ap (λ (o : Outcome). notice_bytes o.notice) (made-step ∙ mode-is);
            delivered = demand2 (in_mode step_machine made mode) image opened-ready own-fit start ps is end d;
            ended = ap said end_is ∙ said_back ending (control_frame 0x74 (0x06 ∷ [])) (control_short 0x74 0x06) e.room ∙ ended_bytes;
            end_notice =
                ap (λ (o : Outcome). notice_bytes o.notice) end_is
                ∙ ap (λ (x : Latest). notice_bytes (Some (Ended (latest_number x) ending.address))) done.latest;
          }

pub demand2_fresh : MeetsFresh step_machine
demand2_fresh n running major minor revision pair fresh image fit mode start ps is end ending sent l d asks e =
    told n running major minor revision pair fresh mode sent l image fit start ps is end ending d asks e
