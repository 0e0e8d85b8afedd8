-- What C is told leaves one outcome: any two that a contract allows are the same (01, 'How much each function must say'). One line for each
-- relation of this crate.
-- Assumes nothing.
use Rattle.std.specs.Prelude.{List, ℕ}
use Rattle.outcomes.specs.Once.{Once, Twice, Thrice, Fourfold, Fivefold}
use Rattle.exports.specs.Check.{IsCheckNumber}
use Rattle.exports.specs.Cleaned.{IsCleanNumbers}
use Rattle.exports.specs.Text.{IsReadNumbers}
use Rattle.exports.specs.Heard.{IsNightSlots}
use Rattle.exports.specs.Packet.{IsPacketNumber}
use Rattle.exports.specs.Slots.{IsTakeSlots}
use Rattle.exports.specs.Written.{IsLengthNumber, IsWriteNumber}

pub record Determined : Type 0 where
  pub check_number : (bank : List ℕ) → Once (IsCheckNumber bank)
  pub clean_numbers : (bank runs sectors told : List ℕ) → Fivefold (IsCleanNumbers bank runs sectors told)
  pub read_numbers : (text : List ℕ) (n : ℕ) (image told : List ℕ) → Thrice (IsReadNumbers text n image told)
  pub length_number : (image : List ℕ) → Once (IsLengthNumber image)
  pub write_number : (image before : List ℕ) → Twice (IsWriteNumber image before)
  pub packet_number : (image : List ℕ) (n p : ℕ) (before : List ℕ) → Twice (IsPacketNumber image n p before)
  pub take_slots : (n : ℕ) (slots bank0 bank1 marks addresses buffer : List ℕ)
      → Fourfold (IsTakeSlots n slots bank0 bank1 marks addresses buffer)
  pub night_slots : (image : List ℕ) (n tries : ℕ) (slots before : List ℕ) → Twice (IsNightSlots image n tries slots before)
