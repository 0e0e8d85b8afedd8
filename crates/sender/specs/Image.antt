-- What it takes to be an image of N sectors.
-- Assumes nothing.
use Rattle.std.specs.Prelude.{◌≡◌, cond, Option, Some, None, List, ℕ, Result}
use Rattle.std.specs.Borrow.{Bor}
use Rattle.std.specs.Result.{MatchResult}
use Rattle.layout.specs.Layout.{good_n}
use Rattle.sender.specs.declared.sectors.Image.{Image}
use Rattle.sender.specs.declared.made.Refusal.{Refusal}
use Rattle.sender.specs.declared.made.Refusal.TheVariants.{BadN, BadLength}
use Rattle.sender.specs.Packet.{image_good}

-- 3, 2, and else nothing
unfoldable pub image_fault : List ℕ → ℕ → Option Refusal
image_fault image n = cond (good_n n) (cond (image_good image n) None (Some BadLength)) (Some BadN)

-- an image of the bytes and the N that were given
pub record Holds (bytes : Bor (List ℕ)) (n : ℕ) (image : Image) : Type 0 where
  pub bytes_is : image.bytes ≡ bytes
  pub n_is : image.n ≡ n

abbrev pub Taken : Bor (List ℕ) → ℕ → Result Image Refusal → Type 0
Taken bytes n r = MatchResult r (Holds bytes n) (λ why. image_fault bytes.now n ≡ Some why)
