-- The descent on rows: the rows as they begin, that a division leaves rows that stand with their roles exchanged, and what the last rows answer; then the
-- call, over any modulus. Assumes nothing.
use Prim.Native.Nat.{ℕ, ◌+◌, ◌-◌, ◌<◌}
use mathlib.Core.Path.{◌≡◌, refl, sym, ◌∙◌, subst}
use mathlib.Core.Logic.{⊎_elim}
use mathlib.Core.List.{List}
use native.Mathlib.Omega.{arith}
use native.Mathlib.Nat.{le_of_dvd}
use lib.ListN.{length}
use Rattle.std.specs.Prelude.{Result, Ok, Err}
use Rattle.sums.specs.Table.{at}
use Rattle.modular.specs.Prime.{Prime}
use Rattle.modular.specs.Inverse.{InverseOf, Lead}
use Rattle.modular.specs.Finds.{Shared as SharedNumber}
use Rattle.modular.specs.declared.inverse.Shares.{Shares}
use Rattle.modular.proofs.PrimeTest.{prime_exactly}
use Rattle.series.specs.Series.{Series}
use Rattle.series.specs.Operations.{red, one, term, xn_minus_one}
use Rattle.series.proofs.Degrees.{below_red, reduced_one, reduced_zeros, reduced_red}
use Rattle.series.proofs.Lengths.{below_list}
use Rattle.series.proofs.SeriesRing.{red-red}
use Rattle.series.proofs.Cycle.{cycle_reduced}
use Rattle.series.proofs.TwoRows.{start, divided}
use Rattle.division.specs.Division.{Dividing, Divided}
use Rattle.division.specs.Terms.{Front, Trimmed}
use Rattle.division.specs.declared.Row.{Row}
use Rattle.euclid.specs.Answer.{Outcome, Entries, Attemptable, Attempts, Answers, Splits}
use Rattle.euclid.specs.Descent.{HoldsPolynomial, Standing, Steppable, AfterStep, Beginning, Last, Finished}
use Rattle.euclid.specs.declared.modulo.Modulus.{Modulus}
use Rattle.division.proofs.Digits.{held_low}
use Rattle.euclid.proofs.Arrays.{holds_held, holds_zeros}
use Rattle.euclid.proofs.Answers.{answers_same}

pub begun : {n : ℕ} {m : Modulus} {a b : Row} → Beginning n m a b → Standing n m.value (at b.remainder) a b
begun {n} {m} w = record {
  state = rw (w.whole, w.cycle.is, w.zero.is, w.unit.is) (start m.two w.entries.some w.pattern.reduced w.trimmed.length w.trimmed.most);
  first = record {
    remainder = holds_held w.cycle (cycle_reduced n m.value m.two w.entries.some);
    cofactor = holds_held w.zero (reduced_zeros m.value (omega (arith, m.two)));
  };
  second = record { remainder = w.pattern; cofactor = holds_held w.unit (reduced_one m.value m.two) };
}

-- What a leading number shares with m is a divisor of m, and not m.
pub splits : {m y d : ℕ} → 0 < y → y < m → SharedNumber m y d → Splits m d
splits some low s = record { above = s.above; below = omega (arith, le_of_dvd some s.gcd.left); divides = s.gcd.right }

pub leading : (m : Modulus) {y : ℕ} → 0 < y → y < m.value → Lead m.value y m.prime
leading m some low = record { two = m.two; some = some; low = low; known = λ e. (prime_exactly m.value).0 (m.known e) }

module _ {n : ℕ} {m : Modulus} {a b : Row} (w : Steppable n m a b) where
  pub lead_some : 0 < at b.remainder (b.len - 1)
  lead_some = w.standing.state.length₁.top w.some

  pub lead_low : at b.remainder (b.len - 1) < m.value
  lead_low = held_low w.standing.second.remainder (b.len - 1)

  -- Where the leading number has an inverse, a can be divided by b.
  pub dividing : {z : ℕ} → InverseOf m.value (at b.remainder (b.len - 1)) z → Dividing m.value (n + 2 - a.len) a b z
  dividing i = record {
    division = record {
      modulus = record { two = m.two; word = m.word };
      dividend = w.standing.first;
      divisor = w.standing.second;
      below₀ = w.standing.state.length₀.below;
      below₁ = w.standing.state.length₁.below;
      some = w.some;
      lead = i;
    };
    order = omega (arith, w.standing.state.falling);
    room = omega (arith, w.standing.state.most, w.entries.most);
    cofactors = record { below = w.standing.state.short₁; room = omega (arith, w.some, w.standing.state.falling, w.standing.state.most, w.entries.most) };
  }

-- What a division leaves where it does not fail.
left : {m : ℕ} {a r b : Row} {t : Result (Unit {0}) Shares} → AfterStep m a r b t → t ≡ Ok tt → Divided m a r b
left {m} {a} {r} {b} h e = (subst (AfterStep m a r b) e h).leaves

module _ {n : ℕ} (m : Modulus) (z : Entries n) {f : Series} {a b : Row} (w : Standing n m.value f a b) where
  pub steppable : 0 < b.len → Steppable n m a b
  steppable h = record { entries = z; f = f; standing = w; some = h }

  -- After a division that left a remainder the rows stand with their roles exchanged.
  pub stepped : {r : Row} {t : Result (Unit {0}) Shares} → 0 < b.len → AfterStep m.value a r b t → t ≡ Ok tt → Standing n m.value f b r
  stepped {r} h s e = let d = left s e in record {
    state = divided m.two z.some w.state h d.remainder d.short d.cofactor d.length d.less;
    first = w.second;
    second = d.held;
  }

  -- k is the length of the output, which is n.
  pub last : {k : ℕ} → k ≡ n → b.len ≡ 0 → Last k m a b
  last q e = subst (λ (x : ℕ). Last x m a b) (sym q) (record { entries = z; f = f; standing = w; none = e })

  pub answered : {k : ℕ} {out : List ℕ} {o : Outcome} → k ≡ n → Finished k m.value a b out o → Attempts n m.value f out (Ok o)
  answered {out = out} {o} q h =
      let answers = (subst (λ (x : ℕ). Finished x m.value a b out o) q h).answers f w in
      record { long = answers.long; reaches = answers }

-- The call: f modulo m is put into the second row.
module _ (m : Modulus) {f out r s t u : List ℕ} (w : Attemptable f out) (cycle : HoldsPolynomial r (xn_minus_one (length f) m.value)) (zero : HoldsPolynomial s (term 0 0))
    (pattern : HoldsPolynomial t (red m.value (at f))) (unit : HoldsPolynomial u one) where
  -- f modulo m has at most n coefficients.
  pub pattern_front : Front t (length f)
  pattern_front = record { below = rw pattern.is (below_red m.value (length f) (at f) (below_list f (length f) (omega arith))); inside = omega (arith, pattern.long, w.entries.most) }

  pub beginning : {l : ℕ} → Trimmed t (length f) l
      → Beginning (length out) m (record { remainder = r; cofactor = s; len = length f + 1 }) (record { remainder = t; cofactor = u; len = l })
  beginning h = rw w.room (record {
    entries = w.entries;
    cycle = cycle;
    zero = holds_zeros zero;
    whole = refl;
    pattern = holds_held pattern (reduced_red m.value (at f) (omega (arith, m.two)));
    unit = unit;
    trimmed = h;
  })

  pub called : (a : Result Outcome Shares) {after : List ℕ} → Attempts (length out) m.value (at t) after a → Attempts (length f) m.value (at f) after a
  called (Ok o) {after} h = record {
    long = h.long ∙ w.room;
    reaches = answers_same (red-red m.value (at f)) o (subst (λ (s : Series). Answers (length f) m.value s after o) pattern.is (subst (λ (n : ℕ). Answers n m.value (at t) after o) w.room h.reaches));
  }
  called (Err s) h = record { long = h.long ∙ w.room; reaches = h.reaches }

-- ---- modulo a prime there is no divisor to be found

module _ {n p : ℕ} {f : Series} {out : List ℕ} {a : Result Outcome Shares} (h : Attempts n p f out a) where
  pub never_divisor : {s : Shares} → Prime p → a ≡ Err s → ⊥
  never_divisor {s} prime e =
      let found = (subst (Attempts n p f out) e h).reaches in
      ⊎_elim (λ (e : s.divisor ≡ 1). omega (arith, found.above)) (λ (e : s.divisor ≡ p). omega (arith, found.below)) (prime.only s.divisor found.divides)
