-- `buffer::place::put_at` meets its contract: the first i bytes are put, the others as they were.
-- Assumes nothing.
use mathlib.Core.Path.{◌≡◌, refl, sym, ap, ◌∙◌}
use mathlib.Core.List.{List, ◌++◌}
use Prim.Native.Nat.{ℕ, ◌+◌}
use native.Mathlib.Omega.{arith}
use native.Mathlib.Numerals.{add-one}
use lib.ListN.{length, take, drop, length-set}
use lib.Seq.{paste, paste-zero, paste-suc, take-length}
use Rattle.buffer.proofs.Places.{place_fits, place_short}
use Rattle.buffer.proofs.place.put_at.Goals as goal

pub returns-then-buffer-at : goal.returns-then-buffer-at
returns-then-buffer-at c =
    let a = c.args in
    sym (place_short a.buffer.now a.at a.bytes.now (omega arith))

pub returns-then-buffer-at-2 : goal.returns-then-buffer-at-2
returns-then-buffer-at-2 c =
    let a = c.args in
    sym (place_short a.buffer.now a.at a.bytes.now (omega arith))

pub loop-i-init : goal.loop-i-init
loop-i-init c =
    let a = c.args in
    (refl, paste-zero a.buffer.now a.at a.bytes.now)

pub loop-i-preserved : goal.loop-i-preserved
loop-i-preserved c =
    let l = c.loop-i in
    let a = c.args in
    (length-set _ _ _ ∙ l.invariant.0, rw (l.invariant.1, add-one) (paste-suc a.buffer.now a.at a.bytes.now l.i 0 (omega arith) (omega arith)))

pub returns : goal.returns
returns c =
    let l = c.loop-i in
    let a = c.args in
    let e : l.i ≡ length a.bytes.now = omega arith in
    l.invariant.1
    ∙ ap (paste a.buffer.now a.at a.bytes.now) e
    ∙ ap (λ (r : List ℕ). take a.at a.buffer.now ++ r ++ drop (a.at + length a.bytes.now) a.buffer.now) (take-length a.bytes.now)
    ∙ sym (place_fits a.buffer.now a.at a.bytes.now (omega arith))
