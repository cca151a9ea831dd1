-- Every line of the table holds, and none of the wrong lines: each kind of line can be shown or rejected by computation, and that of a whole table is computed
-- once. Assumes nothing.
use Rattle.std.specs.Prelude.{Ok, Err}
use Prim.Native.Nat.{ℕ, zero, suc, ◌*◌, ◌/◌, ◌%◌, ◌<◌, ◌∣◌}
use mathlib.Core.Path.{◌≡◌, refl, subst}
use mathlib.Core.Logic.{◌↔◌}
use mathlib.Core.Bool.{Bool, true, false}
use mathlib.Core.List.{List, [], ◌∷◌}
use mathlib.Core.Option.{Option, some, none, IsSome}
use native.Mathlib.Omega.{arith}
use native.Mathlib.Decide.{ℕ_discrete, dec_lt}
use native.Mathlib.Nat.{mod-eq-zero_of_dvd, dvd_of_mod-eq-zero}
use lib.ListN.{length}
use Rattle.sums.specs.Sum.{sum}
use Rattle.sums.specs.Table.{at, table}
use Rattle.sums.proofs.Tables.{at_past}
use Rattle.ring.specs.Mix.{mix}
use Rattle.ring.specs.One.{one, zeros}
use Rattle.ring.specs.Fold.{fold}
use Rattle.modular.specs.Prime.{Prime}
use Rattle.modular.specs.FactorList.{FactorList}
use Rattle.modular.specs.PrimeTest.{undivided?, prime?}
use Rattle.modular.proofs.Factors.{divisor-listed}
use Rattle.modular.proofs.PrimeTest.{prime_exactly}
use Rattle.checks.specs.Checks.{first_high}
use Rattle.answer.specs.First.{first}
use Rattle.answer.specs.Reply.{check_reply}
use Rattle.checks.specs.Order.{order, ring_order}
use Rattle.answer.specs.Check.{Check}
use Rattle.pattern.specs.Singular.{Singular}
use Rattle.pattern.specs.GhostPolynomial.{Degree}
use Rattle.checks.specs.Factors.{factors}
use Rattle.pattern.specs.Promises.{invert_order}
use Rattle.pattern.proofs.OnePrime.{zero_singular}
use Rattle.factors.specs.Factored.{factored}
use Rattle.pattern.specs.Granted.{Granted}
use Rattle.pattern.proofs.Granted.{granted, invert_passes}
use Rattle.pattern.proofs.Demand2.{invert_ghost}
use Rattle.figures.specs.Figures.{Line, inverse, ghost, mixed, folded, listed, AllSingular, Says, Rejected, All, lines, wrong_lines}
use Rattle.figures.proofs.Search.{same?, implies?, below?, ring?, clear?, clear_singular, unclear_singular, clear_least}

infixl 1 ◌>>=◌
abbrev ◌>>=◌ : {A B : Type 0} → Option A → (A → Option B) → Option B
◌>>=◌ (some a) k = k a
◌>>=◌ none k = none

abbrev if_yes : {A : Type 0} → Dec A → Option A
if_yes (yes a) = some a
if_yes (no n) = none

abbrev if_true : {A : Type 0} (b : Bool) → (b ≡ true) ↔ A → Option A
if_true true e = some (e.0 refl)
if_true false e = none

abbrev if_no : {A : Type 0} → Dec A → Option (¬ A)
if_no (yes a) = none
if_no (no n) = some n

-- ---- a call of invert that no check refuses, but for the length of its output

abbrev passed? : (c : Check) → Option (c ≡ Ok tt)
passed? (Ok _) = some refl
passed? (Err r) = none

given : (f : List ℕ) (m : ℕ) (ps es : List ℕ) → first (ring_order f [] m (factors m ps es) []) ≡ Ok tt → Granted f [] (factored m ps es)
given f m ps es ok = (granted f [] (factored m ps es) [] ok).0

passes : (f : List ℕ) (m : ℕ) (ps es : List ℕ) → first (ring_order f [] m (factors m ps es) []) ≡ Ok tt → (old : List ℕ) → length old ≡ length f → first (invert_order f (factored m ps es) (length old)) ≡ Ok tt
passes f m ps es ok old e = invert_passes f (factored m ps es) (length old) (given f m ps es ok) e

-- ---- the parts of a ghost line

-- The last place that is not 0.
abbrev degree : List ℕ → ℕ
degree [] = 0
degree (x ∷ l) = elim (ℕ_discrete (degree l) 0) [ yes e ↦ elim (ℕ_discrete (at l 0) 0) [ yes z ↦ 0 | no z ↦ 1 ] | no e ↦ suc (degree l) ]

unfoldable degree? : (w : List ℕ) (d : ℕ) → Option (Degree w d)
unfolding ℕ_discrete below? implies? dec_lt
degree? w d = do
  a ← if_no (ℕ_discrete (at w d) 0)
  b ← if_yes (below? (length w) (λ i. d < i → at w i ≡ 0) (λ i. implies? (dec_lt d i) (ℕ_discrete (at w i) 0)))
  some (record { last = a; above = λ i h. elim (dec_lt i (length w)) [ yes l ↦ b i l h | no l ↦ at_past w i (omega arith) ] })

-- No prime of the list below p is singular,
abbrev Fine : ℕ → List ℕ → List ℕ → ℕ → Type 0
Fine n f ps p = (i : ℕ) → i < length ps → at ps i < p → ¬ Singular n (at ps i) f

unfoldable fine? : (n : ℕ) (f : List ℕ) → 0 < n → length f ≡ n → (ps : List ℕ) (p : ℕ) → Option (Fine n f ps p)
unfolding prime? undivided? clear? dec_lt
fine? n f n1 lf [] p = some (λ i h l s. omega arith)
fine? n f n1 lf (q ∷ ps) p = fine? n f n1 lf ps p >>= λ rest. elim (dec_lt q p) [
  | yes l ↦ if_true (prime? q) (prime_exactly q) >>= (λ prime. if_yes (clear? n q f n) >>= λ c. some (put rest (λ b. clear_singular n q prime n1 f lf c)))
  | no l ↦ some (put rest (λ b. absurd (l b)))
]
  where
    put : Fine n f ps p → (q < p → ¬ Singular n q f) → Fine n f (q ∷ ps) p
    put rest h zero l b = h b
    put rest h (suc i) l b = rest i (omega arith) b

-- and so no prime of m, which stands in its list.
none_smaller : (n : ℕ) (f : List ℕ) {m p : ℕ} {ps es : List ℕ} → FactorList m ps es → Fine n f ps p → (q : ℕ) → Prime q → q ∣ m → q < p → ¬ Singular n q f
none_smaller n f {p = p} l fine q prime d =
    let t = divisor-listed q l prime (mod-eq-zero_of_dvd q d) in
    subst (λ (x : ℕ). x < p → ¬ Singular n x f) t.2 (fine t.0 t.1)

unfoldable also? : (f : List ℕ) → 0 < length f → (ps : List ℕ) → Option (AllSingular f ps)
unfolding prime? undivided? clear?
also? f n1 [] = some tt
also? f n1 (p ∷ ps) = do
  prime ← if_true (prime? p) (prime_exactly p)
  c ← if_no (clear? (length f) p f (length f))
  rest ← also? f n1 ps
  some (unclear_singular (length f) p prime n1 f refl c, rest)

-- ---- what a check answers

abbrev both? : {A B : Type 0} → Dec A → Dec B → Dec (A × B)
both? (yes a) (yes b) = yes (a, b)
both? (yes a) (no n) = no (λ h. n h.1)
both? (no n) d = no (λ h. n h.0)

unfoldable answered? : (c : Check) (number place : ℕ) → Dec (((check_reply c).number ≡ number) × ((check_reply c).place ≡ place))
unfolding ℕ_discrete
answered? c number place = both? (ℕ_discrete (check_reply c).number number) (ℕ_discrete (check_reply c).place place)

-- ---- the lines

unfoldable says? : (l : Line) → Option (Says l)
unfolding answered? order first_high factors prime? undivided? degree? fine? also? ring? same? clear? dec_lt ℕ_discrete mix fold one zeros table sum
says? (inverse m ps es f g) = do
  ok ← passed? (first (ring_order f [] m (factors m ps es) []))
  r ← if_yes (ring? (length f) m g)
  e ← if_yes (same? (mix (length f) m f g) (one (length f) m))
  some (λ old h. record { meets = (passes f m ps es ok old h, record { ring = r; product = e }) })
says? (ghost m ps es f p out also) =
    let n = length f in
    let w = table n (λ k. at out k / (m / p)) in
    let d = degree w in
    do
      ok ← passed? (first (ring_order f [] m (factors m ps es) []))
      n1 ← if_yes (dec_lt 0 n)
      prime ← if_true (prime? p) (prime_exactly p)
      divides ← if_yes (ℕ_discrete (m % p) 0)
      fine ← fine? n f n1 refl ps p
      r ← if_yes (ring? n p w)
      deg ← degree? w d
      lead ← if_yes (ℕ_discrete (at w d) 1)
      z ← if_yes (same? (mix n p f w) (zeros n))
      c ← if_yes (clear? n p f d)
      times ← if_yes (same? out (table n (λ k. m / p * at w k)))
      others ← also? f n1 also
      some (
        (λ old h. record {
          meets = (
            passes f m ps es ok old h,
            record {
              one = refl;
              smallest = record {
                prime = prime;
                divides = dvd_of_mod-eq-zero p divides;
                singular = zero_singular n p prime n1 f refl w d r deg.last z;
                least = none_smaller n f (given f m ps es ok).factors fine;
              };
              ghost = record { w = w; polynomial = record { ring = r; degree = d; is = deg; monic = lead; zero = z; least = clear_least n p f d c }; times = times };
            },
          );
        }),
        others,
      )
says? (mixed m a b c) = if_yes (same? (mix (length a) m a b) c)
says? (folded m a c) = if_yes (same? (fold (length a) (length c) m a) c)
says? (listed m ps es number place) = if_yes (answered? (factors m ps es) number place)

-- ---- the wrong lines

abbrev or_else : {A : Type 0} → Option A → Option A → Option A
or_else (some a) b = some a
or_else none b = b

-- A prime of m that stands in the list, is below p and singular.
unfoldable smaller? : (m : ℕ) (f : List ℕ) → 0 < length f → (ps : List ℕ) (p : ℕ) → Option ((q : ℕ) × Prime q × (q ∣ m) × (q < p) × Singular (length f) q f)
unfolding prime? undivided? clear? dec_lt ℕ_discrete
smaller? m f n1 [] p = none
smaller? m f n1 (q ∷ ps) p = or_else here (smaller? m f n1 ps p)
  where
    here : Option ((q : ℕ) × Prime q × (q ∣ m) × (q < p) × Singular (length f) q f)
    here = do
      prime ← if_true (prime? q) (prime_exactly q)
      divides ← if_yes (ℕ_discrete (m % q) 0)
      less ← if_yes (dec_lt q p)
      c ← if_no (clear? (length f) q f (length f))
      some (q, prime, dvd_of_mod-eq-zero q divides, less, unclear_singular (length f) q prime n1 f refl c)

-- Its product is not 1; a smaller prime is singular, or its readings are not zero; the ring is another one.
unfoldable rejected? : (l : Line) → Option (Rejected l)
unfolding smaller? answered? factors prime? undivided? same? dec_lt ℕ_discrete mix fold one zeros table sum
rejected? (inverse m ps es f g) = do
  n ← if_no (same? (mix (length f) m f g) (one (length f) m))
  some (λ old h. n h.meets.1.product)
rejected? (ghost m ps es f p out also) = or_else first_prime heard
  where
    first_prime : Option (Rejected (ghost m ps es f p out also))
    first_prime = do
      n1 ← if_yes (dec_lt 0 (length f))
      q ← smaller? m f n1 ps p
      some (λ old h. h.meets.1.smallest.least q.0 q.1 q.2 q.3 q.4)

    heard : Option (Rejected (ghost m ps es f p out also))
    heard = do
      n ← if_no (same? (mix (length f) m f out) (zeros (length f)))
      some (λ old h. n (invert_ghost f (factored m ps es) old 1 p out h).silent)
rejected? (mixed m a b c) = if_no (same? (mix (length a) m a b) c)
rejected? (folded m a c) = if_no (same? (fold (length a) (length c) m a) c)
rejected? (listed m ps es number place) = if_no (answered? (factors m ps es) number place)

-- ---- the tables

unfoldable all? : (P : Line → Type 0) → ((l : Line) → Option (P l)) → (ls : List Line) → Option (All P ls)
all? P d [] = some tt
all? P d (l ∷ ls) = do
  h ← d l
  k ← all? P d ls
  some (h, k)

shown : {A : Type 0} (o : Option A) → IsSome o → A
shown (some a) t = a
shown none t = absurd t

pub figures : All Says lines
unfolding all? says?
figures = shown (all? Says says? lines) tt

pub rejected_figures : All Rejected wrong_lines
unfolding all? rejected?
rejected_figures = shown (all? Rejected rejected? wrong_lines) tt
