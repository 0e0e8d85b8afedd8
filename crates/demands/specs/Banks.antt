-- What is asked of any check of a bank, and of any view of a body (01, 'The bank check: contents first, then bodies').
-- Assumes nothing.
use Rattle.std.specs.Prelude.{◌≡◌, true, false, List, [], ℕ, ◌≤◌, ◌<◌, length}
use Rattle.layout.specs.Layout.{whole_length}
use Rattle.layout.specs.Said.{number, result}
use Rattle.bank.specs.Meaning.{Kept}
use Rattle.bank.specs.Said.{verdict_said}
use Rattle.bank.specs.Sound.{Verdict, stretch_bytes}
use Rattle.bank.specs.Table.{count_of, entry_at}
use Rattle.client.specs.declared.record.Client.{Client}
use Rattle.layout.specs.Pair.{banks, bank_in}
use Rattle.client.specs.Body.{banks_good}

-- 2 unless the length is 1 to 491 sectors; then 06 if each rule is kept, and 1E if not
pub record MeetsCheck (check : List ℕ → Verdict) : Type 0 where
  pub wrong : (b : List ℕ) → whole_length (length b) ≡ false → verdict_said (check b) ≡ number 2
  pub sound : (b : List ℕ) → whole_length (length b) ≡ true → Kept b → verdict_said (check b) ≡ result 0x06
  pub unsound : (b : List ℕ) → whole_length (length b) ≡ true → (Kept b → ⊥) → verdict_said (check b) ≡ result 0x1E

-- record, banks, which body
abbrev pub View : Type 0
View = Client → List ℕ → List ℕ → ℕ → List ℕ

-- that stretch of the next-start bank, or an empty one: for banks of a wrong length, a bad N, an unsound bank, or no body of that number
pub record MeetsBody (view : View) : Type 0 where
  pub there : (c : Client) (bank0 bank1 : List ℕ) (i : ℕ) → banks_good c.fixed.n (length bank0) (length bank1) ≡ true → Kept (bank_in c.next (banks bank0 bank1))
      → i < count_of (bank_in c.next (banks bank0 bank1))
      → view c bank0 bank1 i ≡ stretch_bytes (bank_in c.next (banks bank0 bank1)) (entry_at (bank_in c.next (banks bank0 bank1)) i)
  pub wrong : (c : Client) (bank0 bank1 : List ℕ) (i : ℕ) → banks_good c.fixed.n (length bank0) (length bank1) ≡ false → view c bank0 bank1 i ≡ []
  pub unsound : (c : Client) (bank0 bank1 : List ℕ) (i : ℕ) → (Kept (bank_in c.next (banks bank0 bank1)) → ⊥) → view c bank0 bank1 i ≡ []
  pub past : (c : Client) (bank0 bank1 : List ℕ) (i : ℕ) → count_of (bank_in c.next (banks bank0 bank1)) ≤ i → view c bank0 bank1 i ≡ []
