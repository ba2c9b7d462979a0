-- The table of cubes is right: by a computed test of its 512 lanes.
-- Assumes nothing.
use mathlib.Core.Path.{ap, ◌∙◌}
use mathlib.Core.Bool.{Bool}
use mathlib.Core.List.{List}
use Prim.Native.Nat.{ℕ, ◌+◌, ◌*◌}
use lib.Dec.{T, eqb, eqb→eq}
use Rattle.ground.proofs.Tests.{all, all_at}
use Rattle.field.specs.Field.{product, times, shifted}
use Rattle.field.proofs.Elements.{gf512, element_of, of_product}
use Rattle.planes.specs.Lanes.{bit_of, nine, number_at, lane_of}
use Rattle.roots.specs.Searches.{planes_at, cube, Cubes}
use Rattle.roots.specs.declared.tables.TheConstants.{CUBES}

-- the number of x^3
unfoldable cubed : ℕ → ℕ
cubed x = product x (product x x)

-- lane l of row w is the cube of 64 w + l
abbrev lane_test : List ℕ → ℕ → ℕ → Bool
lane_test s w l = eqb (number_at (planes_at s w) l) (cubed (64 * w + l))

unfoldable cubes_test : List ℕ → Bool
cubes_test s = all 8 (λ w. all 64 (lane_test s w))

cubes_law : (s : List ℕ) → T (cubes_test s) → Cubes s
unfolding cubes_test Cubes lane_of cubed cube
cubes_law s t w l hw hl =
    let row = all_at 8 (λ w. all 64 (lane_test s w)) t w hw in
    let number = eqb→eq _ _ (all_at 64 (lane_test s w) row l hl) in
    ap element_of number ∙ of_product _ _ ∙ ap (gf512.mul (element_of (64 * w + l))) (of_product _ _)

passed : T (cubes_test CUBES)
unfolding cubes_test cubed number_at nine bit_of planes_at product times shifted
passed = tt

pub cubes_are : Cubes CUBES
cubes_are = cubes_law CUBES passed
