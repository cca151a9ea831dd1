-- The answer of the extended Euclid is exact both ways, modulo any m above 1: it is the inverse exactly where f has one, and only one answer with one output
-- fits. Modulo a prime it is the ghost exactly where f and x^n - 1 share a factor of degree 1 or more. Only f modulo m matters. Assumes nothing.
use Prim.Native.Nat.{ℕ, ◌<◌}
use mathlib.Core.Path.{◌≡◌, refl, sym, ◌∙◌, ap}
use mathlib.Core.Logic.{◌↔◌}
use mathlib.Core.List.{List}
use native.Mathlib.Omega.{arith}
use lib.ListN.{length}
use lib.Seq.{ext_get_or}
use Rattle.sums.specs.Table.{at}
use Rattle.modular.specs.Prime.{Prime}
use Rattle.series.specs.Series.{Series}
use Rattle.series.specs.Operations.{red}
use Rattle.series.specs.Inverse.{Invertible}
use Rattle.series.specs.SharedFactor.{Singular}
use Rattle.series.proofs.Inverses.{one_inverse, one_haunting, not_both}
use Rattle.series.proofs.Existence.{inverse_same, haunted_same}
use Rattle.series.proofs.Singular.{shared_no_inverse}
use Rattle.series.proofs.Lengths.{below_list}
use Rattle.std.specs.Prelude.{Ok, Err}
use Rattle.euclid.specs.Answer.{Outcome, Answers}

module _ (n m : ℕ) (two : 1 < m) (some : 0 < n) (f : Series) where
  pub inverted_exactly : (out : List ℕ) (o : Outcome) → Answers n m f out o → (o ≡ Ok tt) ↔ Invertible n m f
  inverted_exactly out (Ok done) a = ((λ _. record { inverse = at out; is = a.means }), (λ _. refl))
  inverted_exactly out (Err s) a = (
    (λ e. absurd (cc)),
    (λ i. absurd (not_both n m two some f s.degree (at out) i.inverse a.means i.is)),
  )

  -- Equal as polynomials, and of one length.
  same_list : (a b : List ℕ) → length a ≡ n → length b ≡ n → at a ≡ at b → a ≡ b
  same_list a b la lb e = ext_get_or 0 a b (la ∙ sym lb) (λ i _. ap (λ (s : Series). s i) e)

  pub one_answer : (out out' : List ℕ) (o o' : Outcome) → Answers n m f out o → Answers n m f out' o' → (o ≡ o') × (out ≡ out')
  one_answer out out' (Ok done) (Ok done') a b = (
    refl,
    same_list out out' a.long b.long
        (one_inverse n m two some f (at out) (at out') a.reduced b.reduced (below_list out n (omega (arith, a.long))) (below_list out' n (omega (arith, b.long))) a.means b.means),
  )
  one_answer out out' (Ok done) (Err s) a b = absurd (not_both n m two some f s.degree (at out') (at out) b.means a.means)
  one_answer out out' (Err s) (Ok done) a b = absurd (not_both n m two some f s.degree (at out) (at out') a.means b.means)
  one_answer out out' (Err s) (Err s') a b =
      let same = one_haunting n m two some f s.degree s'.degree (at out) (at out') a.means b.means in
      (ap (λ (d : ℕ). let o : Outcome = Err (record { degree = d }) in o) same.0, same_list out out' a.long b.long same.1)

-- Modulo a prime.
pub shared_exactly : (n p : ℕ) → Prime p → 0 < n → (f : Series) (out : List ℕ) (o : Outcome) → Answers n p f out o → ((d : ℕ) × (o ≡ Err (record { degree = d }))) ↔ Singular n p f
shared_exactly n p prime some f out (Err s) a = ((λ _. record { degree = s.degree; high = a.means.high; shared = a.means.shared }), (λ _. (s.degree, refl)))
shared_exactly n p prime some f out (Ok done) a = (
  (λ t. absurd (let e = t.1 in cc)),
  (λ s. absurd (shared_no_inverse n p prime some f s.degree s.shared s.high (record { inverse = at out; is = a.means }))),
)

-- What is answered for f is answered for g, where both are the same modulo m.
pub answers_same : {n m : ℕ} {f g : Series} {out : List ℕ} → red m f ≡ red m g → (o : Outcome) → Answers n m f out o → Answers n m g out o
answers_same {n} {m} {f} {g} {out} e (Ok done) a = record { long = a.long; reduced = a.reduced; means = inverse_same n m f g e (at out) a.means }
answers_same {n} {m} {f} {g} {out} e (Err s) a = record { long = a.long; reduced = a.reduced; means = haunted_same n m f g e s.degree (at out) a.means }
