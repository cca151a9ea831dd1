-- What unmixing gives where there is an inverse: the inverse mixed with the readings is the counts. Assumes nothing.
use Rattle.std.specs.Prelude.{Ok}
use Prim.Native.Nat.{ℕ}
use mathlib.Core.Path.{◌≡◌, sym, ap, ◌∙◌, subst}
use mathlib.Core.List.{List}
use native.Mathlib.Omega.{arith}
use lib.ListN.{length}
use Rattle.ring.specs.Mix.{mix}
use Rattle.convolve.specs.Mixable.{Mixable}
use Rattle.convolve.proofs.Rings.{rings_mixable}
use Rattle.factors.specs.Factored.{Factored}
use Rattle.pattern.specs.Sent.{Sent, entries}
use Rattle.pattern.specs.Counts.{Unmixed}
use Rattle.pattern.proofs.Granted.{alone}
use Rattle.pattern.proofs.Unmixing.{unmixed_of}
use Rattle.invert.specs.Inversions.{CanInvert, Inverting, Inversion}
use Rattle.feeding.specs.Unmixings.{CanUnmix, Unmixing}

-- What was found, where its variant is known.
pub known : {f g : List ℕ} {m : ℕ} {found k : Inversion} → Inverting f m g found → found ≡ k → Inverting f m g k
known {f} {g} {m} i e = subst (Inverting f m g) e i

-- What inverting and what mixing ask.
pub invertible : {s : Sent} {M : Factored} {inverse out : List ℕ} → CanUnmix s M inverse out → CanInvert s.pattern M inverse
invertible pre = record { granted = alone pre.counts.granted; long = pre.long }

pub mixable : {s : Sent} {M : Factored} {inverse out g : List ℕ} {u : Unit {0}} → CanUnmix s M inverse out → Inverting s.pattern M.modulus g (Ok u) → Mixable g s.readings M.modulus out
mixable {s} {M} {out = out} {g} pre i =
    let l = pre.counts.granted.legal in
    rings_mixable (entries s) M.modulus g s.readings out l.some l.few (omega (arith, l.low)) l.high i.means.ring l.rings.0 pre.counts.long

pub counts_told : {s : Sent} {M : Factored} {inverse out old g new : List ℕ} {u : Unit {0}} → CanUnmix s M inverse out → Inverting s.pattern M.modulus g (Ok u) → new ≡ mix (length g) M.modulus g s.readings
    → Unmixing s M.modulus old g new (Ok tt)
counts_told {s} {M} {g = g} {new} pre i e =
    let m = M.modulus in
    let legal = pre.counts.granted.legal in
    let counts = unmixed_of m s (omega (arith, legal.low)) (record { inverse = g; is = i.means }) legal.rings.0 in
    record { inverting = record { means = i.means }; counted = record { means = subst (Unmixed m s) (sym (e ∙ ap (λ (n : ℕ). mix n m g s.readings) i.means.ring.long)) counts } }
