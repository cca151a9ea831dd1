-- The answer from the last rows: the cofactor of the last divisor over that divisor, where it is a constant, is the inverse; else the zero row's cofactor made
-- monic is the ghost. Both fit n places, and both divisors have an inverse, whatever m is. Assumes nothing.
use Prim.Native.Nat.{ℕ, ◌+◌, ◌*◌, ◌-◌, ◌%◌, ◌<◌}
use mathlib.Core.Path.{◌≡◌, sym, ◌∙◌, ap, subst, fun_ext}
use mathlib.Core.List.{List}
use native.Mathlib.Omega.{arith}
use lib.ListN.{length, take}
use lib.Seq.{length-take-le}
use Rattle.sums.specs.Table.{at}
use Rattle.std.specs.Prelude.{Ok, Err}
use Rattle.series.specs.Series.{Series, Below, Reduced}
use Rattle.series.specs.Rows.{State}
use Rattle.series.specs.Operations.{mul, term}
use Rattle.series.specs.Inverse.{Inverse}
use Rattle.series.specs.Ghost.{Ghost}
use Rattle.series.proofs.Degrees.{below_up, reduced_mul}
use Rattle.series.proofs.Units.{inverse_unit, unit_inverse}
use Rattle.series.proofs.Ends
use Rattle.division.specs.Limits.{places}
use Rattle.division.specs.Division.{Coefficients}
use Rattle.division.specs.declared.Row.{Row}
use Rattle.euclid.specs.Descent.{Standing, Last, Finished, HasInverse, Dividable, Over}
use Rattle.euclid.specs.declared.modulo.Modulus.{Modulus}
use Rattle.division.proofs.Digits.{held_low}
use Rattle.division.proofs.Parts.{take_front, front_low}

-- n coefficients of an array.
pub long_front : {m n : ℕ} {a : List ℕ} → n < places → Coefficients m a → length (take n a) ≡ n
long_front {m} {n} {a} h d = length-take-le n a (omega (arith, d.long))

module _ {n : ℕ} {m : Modulus} {a b : Row} (w : Last n m a b) where
  pub room : n < places
  room = omega (arith, w.entries.most)

  abbrev Ending : Series → Type 0
  Ending f = State n m.value f a.len 0 (at a.remainder) (at b.remainder) (at a.cofactor) (at b.cofactor)

  ending : {f : Series} → Standing n m.value f a b → Ending f
  ending {f} h = subst (λ (l : ℕ). State n m.value f a.len l (at a.remainder) (at b.remainder) (at a.cofactor) (at b.cofactor)) w.none h.state

  state : Ending w.f
  state = ending w.standing

  has_inverse : (x : List ℕ) (k : ℕ) → Coefficients m.value x → 0 < at x k → (z : ℕ) × (z * at x k % m.value ≡ 1 % m.value) → HasInverse m.value (at x k)
  has_inverse x k h some u = record { some = some; low = held_low h k; inverse = u.0 % m.value; is = unit_inverse m.two u.0 u.1 }

  pub last_some : a.len ≡ 1 → HasInverse m.value (at a.remainder 0)
  last_some e = subst (λ (x : ℕ). HasInverse m.value (at a.remainder x)) (omega arith) (has_inverse a.remainder (a.len - 1) w.standing.first.remainder (state.length₀.top (omega arith)) (Ends.last_unit m.two w.entries.some state))

  pub ghost_some : HasInverse m.value (at b.cofactor (n + 1 - a.len))
  ghost_some = subst (λ (x : ℕ). HasInverse m.value (at b.cofactor x)) (omega (arith, state.falling))
      (has_inverse b.cofactor (n - (a.len - 1)) w.standing.second.cofactor (Ends.top_some m.two w.entries.some state) (Ends.top_unit m.two w.entries.some state))

  pub dividable : {y : ℕ} {x out : List ℕ} → Coefficients m.value x → HasInverse m.value y → length out ≡ n → Dividable m y (take n x) out
  dividable h z e = record { number = z; low = front_low n h; room = e ∙ sym (long_front room h) }

  -- What is over y, of an array with n coefficients.
  scaled : {y : ℕ} {out : List ℕ} (x : List ℕ) → Below n (at x) → (o : Over m.value y (take n x) out) → at out ≡ mul m.value (term o.z 0) (at x)
  scaled x l o = o.is ∙ ap (mul m.value (term o.z 0)) (fun_ext λ i. take_front n x l i)

  pub finished_inverse : {out : List ℕ} → a.len ≡ 1 → Over m.value (at a.remainder 0) (take n a.cofactor) out → Finished n m.value a b out (Ok tt)
  finished_inverse e o = record {
    answers = λ f h. let st = ending h in record {
      long = o.long ∙ long_front room w.standing.first.cofactor;
      reduced = subst (Reduced m.value) (sym o.is) (reduced_mul m.value (term o.z 0) (at (take n a.cofactor)) (omega (arith, m.two)));
      means = subst (Inverse n m.value f) (sym (scaled a.cofactor (below_up (n + 1 - a.len) n (at a.cofactor) (omega arith) st.short₀) o))
          (Ends.inverse m.two w.entries.some st o.z e (inverse_unit m.two o.inverse));
    };
  }

  pub finished_ghost : {out : List ℕ} → (a.len ≡ 1 → ⊥) → Over m.value (at b.cofactor (n + 1 - a.len)) (take n b.cofactor) out → Finished n m.value a b out (Err (record { degree = a.len - 1 }))
  finished_ghost e o = record {
    answers = λ f h. let st = ending h in record {
      long = o.long ∙ long_front room w.standing.second.cofactor;
      reduced = subst (Reduced m.value) (sym o.is) (reduced_mul m.value (term o.z 0) (at (take n b.cofactor)) (omega (arith, m.two)));
      means = record {
        high = omega (arith, st.falling);
        most = omega (arith, st.most);
        shared = Ends.shared m.two w.entries.some st;
        ghost = subst (Ghost n m.value f (n - (a.len - 1))) (sym (scaled b.cofactor (below_up (n + 2 - a.len) n (at b.cofactor) (omega (arith, st.falling)) st.short₁) o))
            (Ends.ghost m.two w.entries.some st o.z (subst (λ (x : ℕ). o.z * at b.cofactor x % m.value ≡ 1 % m.value) (omega (arith, st.falling)) (inverse_unit m.two o.inverse)));
      };
    };
  }
