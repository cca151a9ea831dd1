-- One digit of a quotient, and the record of its next two terms. Assumes nothing.
use Prim.Native.Nat.{ℕ, ◌+◌, ◌*◌, ◌-◌, ◌%◌, ◌≤◌, ◌<◌}
use mathlib.Core.Path.{◌≡◌, sym, ◌∙◌, ap}
use mathlib.Core.List.{List, ◌∷◌}
use native.Mathlib.Omega.{arith}
use native.Mathlib.Nat.{mod-add-mod, add-mod-mod, mod_self, mod-lt, mod-eq_of_lt}
use Rattle.sums.specs.Table.{at}
use Rattle.series.specs.Series.{Reduced}
use Rattle.division.specs.Terms.{Digit, Longer, NextTerms}
use Rattle.division.specs.Division.{Divisible, Coefficients}
use Rattle.division.specs.declared.Row.{Row}
use Rattle.division.specs.declared.Terms.{Terms}
use Rattle.series.proofs.Units.{inverse_unit}
use Rattle.division.proofs.Linear.{two_away}

-- p less t, modulo p, where t is x z modulo p.
pub digit_is : (p x z t : ℕ) → 0 < p → t ≡ x * z % p → t ≤ p → Digit p x z ((p - t) % p)
digit_is p x z t pos e l = record {
  low = mod-lt (p - t) pos;
  sum = mod-add-mod (p - t) p (x * z) ∙ sym (add-mod-mod (p - t) (x * z) p) ∙ ap (λ (y : ℕ). (p - t + y) % p) (sym e) ∙ ap (λ (y : ℕ). y % p) {x = p - t + t} {y = p} (omega arith) ∙ mod_self p;
}

-- Nothing to take away.
digit_none : {p x z c : ℕ} → x ≡ 0 → Digit p x z c → c ≡ 0
digit_none {p} {x} {z} {c} e d = sym (mod-eq_of_lt d.low) ∙ ap (λ (y : ℕ). y % p) {x = c} {y = c + x * z} (omega (arith, ap (λ (y : ℕ). y * z) e)) ∙ d.sum

pub held_low : {p : ℕ} {a : List ℕ} → Coefficients p a → (k : ℕ) → at a k < p
unfolding Reduced
held_low h = h.reduced

-- rest is what is next once the top is away.
pub next_two : {p top z : ℕ} {a b : Row} → Longer p top a b z → (t : Terms) {rest : ℕ} → Digit p (at a.remainder (top - 1)) z t.high.value
    → rest ≡ (at a.remainder (top - 2) + t.high.value * at (0 ∷ b.remainder) (b.len - 1)) % p → Digit p rest z t.low.value → t.low.modulus ≡ p → t.high.modulus ≡ p
    → t.shift ≡ top - b.len - 1 → NextTerms p top a b t
next_two {p} {top} {z} {a} {b} h t {rest} g e g' low high shift = record {
  low = low;
  high = high;
  shift = shift;
  away = rw shift (two_away p z b.len a.remainder b.remainder d.below₁ d.some (inverse_unit d.modulus.two d.lead) top t.low.value t.high.value rest h.order d.below₀ g.sum e g'.sum);
  none = λ n. digit_none n g;
}
  where
    d : Divisible p top a b z
    d = h.division
