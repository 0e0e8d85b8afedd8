-- `crc::braid` meets its contract: the six registers, with the words that they are at and the bytes after these, come to the whole.
-- Assumes nothing.
use mathlib.Core.Path.{◌≡◌}
use mathlib.Core.List.{foldl}
use Prim.Native.Nat.{◌*◌}
use Rattle.crc.specs.Crc.{crc_byte}
use Rattle.crc.proofs.Strands.{braided}
use Rattle.crc.proofs.braid.Given as goal

abbrev pub invariant-loop-turn : goal.invariant-loop-turn
invariant-loop-turn l = braided l.a l.b l.c l.d l.e l.f l.part (l.turn-index * 24) ≡ foldl crc_byte l.register l.part
