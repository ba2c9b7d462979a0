-- The search leaves one result: each bit of the eight machine words is told by the locator's value at its element.
-- Assumes nothing.
use mathlib.Core.Path.{◌≡◌, sym, ◌∙◌}
use mathlib.Core.Logic.{by_cases}
use mathlib.Core.List.{List}
use Prim.Native.Nat.{ℕ, ◌+◌, ◌*◌, ◌^◌, ◌<◌}
use native.Mathlib.Omega.{arith}
use lib.ListN.{length, get_or}
use lib.Seq.{ext_get_or}
use Rattle.field.proofs.Elements.{gf512, element_of}
use Rattle.planes.specs.Lanes.{bit_of}
use Rattle.planes.proofs.Once.{lanes_once}
use Rattle.roots.specs.Searches.{locator_at, Searched}

pub zeros_once : (locator : List ℕ) (n : ℕ) (y z : List ℕ) → length y ≡ 8 → length z ≡ 8 → ((w : ℕ) → get_or y w 0 < 2 ^ 64)
    → ((w : ℕ) → get_or z w 0 < 2 ^ 64) → Searched locator n y → Searched locator n z → y ≡ z
zeros_once locator n y z ly lz wy wz sy sz =
    ext_get_or 0 y z (ly ∙ sym lz) (λ w h. lanes_once _ _ (wy w) (wz w) (same w (omega arith)))
  where
    same : (w : ℕ) → w < 8 → (l : ℕ) → l < 64 → bit_of (get_or y w 0) l ≡ bit_of (get_or z w 0) l
    same w h l k =
        by_cases (gf512.same? (locator_at locator n (element_of (64 * w + l))) gf512.zero) (λ e. sy.zero w l h k e ∙ sym (sz.zero w l h k e))
        (λ e. sy.other w l h k e ∙ sym (sz.other w l h k e))
