-- Demand 2 from the very beginning: a client is made, initiated and put into OTA mode by the sender's request; an image is delivered; the mode is
-- ended by the sender's request, and the host is told 01 (01, 'The client, step by step', "Notice 6034"); all requests come from one address.
-- Assumes nothing.
use Rattle.std.specs.Prelude.{◌≡◌, true, List, [], ◌∷◌, ℕ, length}
use Rattle.layout.specs.declared.Bank.{Bank}
use Rattle.layout.specs.Layout.{good_n, bank_size}
use Rattle.layout.specs.Pair.{Banks, bank_in}
use Rattle.sender.specs.declared.request.Request.TheVariants.{ModeStart, ModeEnd}
use Rattle.sender.specs.Request.{request_frame}
use Rattle.client.specs.Host.{fixed_of, new_of}
use Rattle.client.specs.Notice.{notice_bytes}
use Rattle.calls.specs.Call.{Board, board}
use Rattle.demands.specs.Board.{LentCall, Input, Initiate, Datagram, said, Machine, after}
use Rattle.demands.specs.Demand2.{Lends, SentFrom, Fit, Delivery, Delivered}

-- a new client between two whole banks
pub record Fresh (n : ℕ) (pair : Banks) : Type 0 where
  pub good : good_n n ≡ true
  pub whole : (x : Bank) → length (bank_in x pair) ≡ bank_size n

-- the board when the mode was started, and when the image was delivered
abbrev pub in_mode : Machine → Board → LentCall → Board
in_mode m b mode = after m b (Initiate ∷ Datagram mode ∷ [])

abbrev pub after_all : Machine → Board → LentCall → LentCall → List Input → LentCall → Board
after_all m b mode start is end = (m (after m (in_mode m b mode) (Datagram start ∷ is)) (Datagram end)).board

pub record FreshRight (m : Machine) (b : Board) (image : List ℕ) (mode start : LentCall) (ps : List ℕ) (is : List Input) (end over : LentCall) : Type 0 where
  pub initiated : (m b Initiate).number ≡ 0
  pub started : said (m (m b Initiate).board (Datagram mode)) ≡ 0x01 ∷ 0x02 ∷ 0x71 ∷ 0x06 ∷ 0x87 ∷ 0x03 ∷ []
  pub start_notice : notice_bytes (m (m b Initiate).board (Datagram mode)).notice ≡ 0x60 ∷ 0x33 ∷ mode.address
  pub delivered : Delivered m (in_mode m b mode) image start ps is end
  pub ended : said (m (after_all m b mode start is end) (Datagram over)) ≡ 0x01 ∷ 0x02 ∷ 0x74 ∷ 0x06 ∷ 0x84 ∷ 0x03 ∷ []
  pub end_notice : notice_bytes (m (after_all m b mode start is end) (Datagram over)).notice ≡ 0x60 ∷ 0x34 ∷ 0x01 ∷ over.address

abbrev pub MeetsFresh : Machine → Type 0
MeetsFresh m =
    (n : ℕ) (running : Bank) (major minor revision : ℕ) (pair : Banks) → Fresh n pair
    → (let b : Board = board (new_of n running major minor revision).client pair in
    (image : List ℕ) → Fit image (fixed_of n running major minor revision)
    → (mode start : LentCall) (ps : List ℕ) (is : List Input) (end over : LentCall)
    → mode.datagram ≡ request_frame ModeStart → Lends n mode
    → Delivery mode.address (in_mode m b mode) image start ps is end
    → over.datagram ≡ request_frame ModeEnd → SentFrom mode.address n over
    → FreshRight m b image mode start ps is end over)
