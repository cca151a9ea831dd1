-- `convolve::convolve_within` meets its contract: the room holds both layouts, and every entry is a sum along them. Assumes nothing.
use Prim.Native.Nat.{ℕ}
use mathlib.Core.Path.{◌∙◌}
use lib.ListN.{length-take, length-replicate}
use Rattle.convolve.proofs.Product.{laid, product}
use native.Mathlib.Omega.{arith}
use Rattle.convolve.proofs.convolve_within.Goals as goal

pub entries-requires : goal.entries-requires
entries-requires g c =
    laid _ _ _ _ c.requires.mixable c.lay_backwards.ensures c.lay_around.ensures (omega (arith, length-take {A = ℕ}, length-replicate {A = ℕ}))

pub returns : goal.returns
returns g c =
    c.entries.ensures
    ∙ product _ _ _ _ c.requires.mixable c.lay_backwards.ensures c.lay_around.ensures (omega (arith, length-take {A = ℕ}, length-replicate {A = ℕ}))
