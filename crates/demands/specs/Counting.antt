-- What is asked of a counter of packets, and of who tells where one stands, whatever it is (01, 'Hex text', "The sender sends, lowest first"; 'What comes back when it is no',
-- "Sender: 3, 2, 5").
-- Assumes nothing.
use Rattle.std.specs.Prelude.{◌≡◌, true, false, List, ℕ, suc, ◌*◌, ◌≤◌, ◌<◌, length, Result, Ok}
use Rattle.flash.specs.Bank.{blank_sector}
use Rattle.layout.specs.Layout.{sector_size, good_n, sector_of}
use Rattle.layout.specs.Said.{number, value}
use Rattle.sender.specs.declared.made.Place.{Place}
use Rattle.sender.specs.declared.made.Refusal.{Refusal}
use Rattle.sender.specs.Made.{made_said}
use Rattle.sender.specs.Packet.{placed_said}

-- image, N
abbrev pub Counter : Type 0
Counter = List ℕ → ℕ → Result ℕ Refusal

-- of the first k sectors, so many have a byte other than 0xFF
pub data Used (image : List ℕ) : ℕ → ℕ → Type 0 where
  none_used : Used image 0 0
  blank_one : {k count : ℕ} → sector_of image (suc k) ≡ blank_sector → Used image k count → Used image (suc k) count
  used_one : {k count : ℕ} → (sector_of image (suc k) ≡ blank_sector → ⊥) → Used image k count → Used image (suc k) (suc count)

-- they are counted
pub record CountRight (image : List ℕ) (n : ℕ) (answer : Result ℕ Refusal) : Type 0 where
  pub count : ℕ
  pub counts : made_said answer ≡ value count
  pub used : Used image n count

-- 3, 2, and then the number of packets
pub record MeetsCounter (s : Counter) : Type 0 where
  pub bad_n : (image : List ℕ) (n : ℕ) → good_n n ≡ false → made_said (s image n) ≡ number 3
  pub bad_length : (image : List ℕ) (n : ℕ) → good_n n ≡ true → (length image ≡ sector_size * n → ⊥) → made_said (s image n) ≡ number 2
  pub counted : (image : List ℕ) (n : ℕ) → good_n n ≡ true → length image ≡ sector_size * n → CountRight image n (s image n)

-- image, N, packet number
abbrev pub Placer : Type 0
Placer = List ℕ → ℕ → ℕ → Result Place Refusal

-- packet p is the sector that has a byte other than 0xFF and p such sectors before it; and all are counted
pub record PlaceRight (image : List ℕ) (n p : ℕ) (answer : Result Place Refusal) : Type 0 where
  pub before : ℕ
  pub count : ℕ
  pub tells : answer ≡ Ok (record { sector = suc before; count = count })
  pub inside : suc before ≤ n
  pub used : sector_of image (suc before) ≡ blank_sector → ⊥
  pub number_is : Used image before p
  pub all : Used image n count

-- 3, 2, 5, and then its place
pub record MeetsPlacer (s : Placer) : Type 0 where
  pub bad_n : (image : List ℕ) (n p : ℕ) → good_n n ≡ false → placed_said (s image n p) ≡ number 3
  pub bad_length : (image : List ℕ) (n p : ℕ) → good_n n ≡ true → (length image ≡ sector_size * n → ⊥) → placed_said (s image n p) ≡ number 2
  pub past : (image : List ℕ) (n p count : ℕ) → good_n n ≡ true → length image ≡ sector_size * n → Used image n count → count ≤ p
      → placed_said (s image n p) ≡ number 5
  pub placed : (image : List ℕ) (n p count : ℕ) → good_n n ≡ true → length image ≡ sector_size * n → Used image n count → p < count
      → PlaceRight image n p (s image n p)
