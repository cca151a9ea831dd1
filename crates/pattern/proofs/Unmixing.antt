-- The counts behind readings: they are the inverse mixed with the readings, the only ones, all zero exactly when the readings are, and unmixing what was
-- heard of counts gives them back. f (g y) = y, and c = g (f c), where g is the inverse of f. Assumes nothing.
use Rattle.std.specs.Prelude.{Ok}
use Prim.Native.Nat.{ℕ, ◌<◌}
use mathlib.Core.Path.{◌≡◌, sym, ap, ◌∙◌}
use mathlib.Core.Logic.{◌↔◌}
use mathlib.Core.List.{List}
use native.Mathlib.Omega.{arith}
use lib.ListN.{length}
use Rattle.sums.specs.Table.{at}
use Rattle.sums.proofs.Tables.{at_table, table_eq}
use Rattle.ring.specs.Ring.{Ring}
use Rattle.ring.specs.Mix.{mix}
use Rattle.ring.specs.One.{one, zeros}
use Rattle.ring.specs.Reduce.{reduce}
use Rattle.ring.specs.Inverse.{Inverse, Invertible}
use Rattle.ring.proofs.Entries.{reduce_id, reduce_ring}
use Rattle.ring.proofs.Product.{mix_comm, mix_assoc, mix-one, mix-zeros, mix-reduce, mix_ring}
use Rattle.factors.specs.Factored.{Factored}
use Rattle.pattern.specs.Sent.{Sent, entries}
use Rattle.pattern.specs.Heard.{heard}
use Rattle.pattern.specs.Counts.{Counts, Unmixed}
use Rattle.pattern.specs.Idle.{Idle}
use Rattle.pattern.specs.Promises.{Inverts, Unmixes}
use Rattle.pattern.proofs.Granted.{unmix_granted}

-- g times f times c is c, modulo m.
back : (n m : ℕ) {f g : List ℕ} (c : List ℕ) → Inverse n m f g → mix n m g (mix n m f c) ≡ reduce n m c
back n m {f} {g} c i = sym (mix_assoc n m g f c) ∙ ap (λ (x : List ℕ). mix n m x c) (mix_comm n m g f ∙ i.product) ∙ mix_comm n m (one n m) c ∙ mix-one n m c

forth : (n m : ℕ) {f g : List ℕ} (y : List ℕ) → Inverse n m f g → mix n m f (mix n m g y) ≡ reduce n m y
forth n m {f} {g} y i = sym (mix_assoc n m f g y) ∙ ap (λ (x : List ℕ). mix n m x y) i.product ∙ mix_comm n m (one n m) y ∙ mix-one n m y

-- A tank is idle exactly when its counts are zeros, modulo m.
module _ {n m : ℕ} {c : List ℕ} where
  zeros_idle : reduce n m c ≡ zeros n → Idle n m c
  unfolding reduce zeros
  zeros_idle e = record { entries = λ i h. sym (at_table n _ i h) ∙ ap (λ (l : List ℕ). at l i) e ∙ at_table n _ i h }

  idle_zeros : Idle n m c → reduce n m c ≡ zeros n
  unfolding reduce zeros
  idle_zeros idle = table_eq n _ _ idle.entries

module _ (m : ℕ) (s : Sent) where
  -- "The counts, that is the inverse mixed with the readings" (document 01, The calls, Unmix).
  mixed_counts : {g : List ℕ} → 0 < m → Inverse (entries s) m s.pattern g → Ring (entries s) m s.readings → Counts m s (mix (entries s) m g s.readings)
  unfolding heard
  mixed_counts {g} z i r = record { ring = mix_ring (entries s) m g s.readings z; readings = forth (entries s) m s.readings i ∙ reduce_id (entries s) m r }

  counts_mixed : {g c : List ℕ} → Inverse (entries s) m s.pattern g → Counts m s c → c ≡ mix (entries s) m g s.readings
  unfolding heard
  counts_mixed {g} {c} i k = sym (reduce_id (entries s) m k.ring) ∙ sym (back (entries s) m c i) ∙ ap (mix (entries s) m g) k.readings

  -- There are no others.
  one_counts : {c c' : List ℕ} → Invertible (entries s) m s.pattern → Counts m s c → Counts m s c' → c ≡ c'
  one_counts u k k' = counts_mixed u.is k ∙ sym (counts_mixed u.is k')

  pub one_unmixed : {c c' : List ℕ} → Unmixed m s c → Unmixed m s c' → c ≡ c'
  one_unmixed k k' = one_counts k.invertible k.counts k'.counts

  pub unmixed_of : 0 < m → (u : Invertible (entries s) m s.pattern) → Ring (entries s) m s.readings → Unmixed m s (mix (entries s) m u.inverse s.readings)
  unmixed_of z u r = record { invertible = u; counts = mixed_counts z u.is r }

  -- There are some behind all readings that can be heard.
  pub counts_behind : 0 < m → Invertible (entries s) m s.pattern → Ring (entries s) m s.readings → (c : List ℕ) × (s.readings ≡ heard m s c)
  counts_behind z u r = (_, sym (unmixed_of z u r).counts.readings)

  -- Readings are all zero exactly when the tank is idle.
  pub idle_exactly : (c : List ℕ) → Invertible (entries s) m s.pattern → (heard m s c ≡ zeros (entries s)) ↔ Idle (entries s) m c
  unfolding heard
  idle_exactly c u = (
    (λ e. zeros_idle (sym (back (entries s) m c u.is) ∙ ap (mix (entries s) m u.inverse) e ∙ mix-zeros (entries s) m u.inverse)),
    (λ idle. sym (mix-reduce (entries s) m s.pattern c) ∙ ap (mix (entries s) m s.pattern) (idle_zeros idle) ∙ mix-zeros (entries s) m s.pattern),
  )

  -- What was heard of counts c has the counts c behind it, modulo m.
  module _ (c : List ℕ) (positive : 0 < m) (h : s.readings ≡ heard m s c) where
    heard_counts : Counts m s (reduce (entries s) m c)
    unfolding heard
    heard_counts = record { ring = reduce_ring (entries s) m c positive; readings = mix-reduce (entries s) m s.pattern c ∙ sym h }

    pub heard_unmixed : Invertible (entries s) m s.pattern → Unmixed m s (reduce (entries s) m c)
    heard_unmixed u = record { invertible = u; counts = heard_counts }

    counts_heard : {x : List ℕ} → Unmixed m s x → x ≡ reduce (entries s) m c
    counts_heard k = one_counts k.invertible k.counts heard_counts

-- ---- what it means for the calls

-- Unmix answers what invert and mix would.
pub unmix_mixes : (s : Sent) (M : Factored) (old old' g c : List ℕ) → Inverts s.pattern M old (Ok tt) g → Unmixes s M old' (Ok tt) c → c ≡ mix (entries s) M.modulus g s.readings
unmix_mixes s M old old' g c h k = counts_mixed M.modulus s h.meets.1 k.meets.1.counts

-- Unmixing what was heard of counts gives the counts.
pub unmix_heard : (s : Sent) (M : Factored) (c old new : List ℕ) → Ring (entries s) M.modulus c → s.readings ≡ heard M.modulus s c → Unmixes s M old (Ok tt) new → new ≡ c
unmix_heard s M c old new r h k =
    let given = (unmix_granted s M (length old) k.meets.0).0 in
    counts_heard M.modulus s c (omega (arith, given.legal.low)) h k.meets.1 ∙ reduce_id (entries s) M.modulus r
