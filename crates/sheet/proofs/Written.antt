-- A version 1 sheet written from its values reads back as exactly those values, and as without readings where there are none (what a writer of
-- sheets needs). Its fields are well-formed, and each value stands where its part is told. Assumes nothing.
use Rattle.std.specs.Prelude.{Some}
use Prim.Native.Nat.{ℕ, ◌+◌}
use mathlib.Core.Path.{◌≡◌, refl, sym, ap, ◌∙◌}
use mathlib.Core.List.{List, [], ◌∷◌, ◌++◌, append_assoc}
use mathlib.Core.Option.{Option, none, some}
use native.Mathlib.Omega.{arith}
use lib.ListN.{length, take, drop, length-append}
use Rattle.limits.specs.Limits.{header_bytes}
use Rattle.octets.specs.Numbers.{big_endian}
use Rattle.fields.specs.Fields.{Field, part_of}
use Rattle.fields.specs.Tags.{tags}
use Rattle.fields.specs.Walk.{accepted}
use Rattle.fields.specs.WellFormed.{Fits, WellFormed}
use Rattle.fields.specs.Joined.{Value, field_bytes, joined, placed, all_placed}
use Rattle.sheet.specs.Sheets.{told, sheet_of}
use Rattle.sheet.specs.Written.{version_1, ReadingsFit, Lengths, Back}
use Rattle.octets.proofs.Numbers.{in_part}
use Rattle.fields.proofs.Joined.{value_stands, accepted_joined}
use Rattle.fields.proofs.Rows.{row_fits}

-- ---- each value stands where its field is placed

abbrev Stand : (s : List ℕ) (o : ℕ) → List Value → Type 0
Stand s o [] = Unit {0}
Stand s o (f ∷ fs) = (take (length f.bytes) (drop (o + header_bytes) s) ≡ f.bytes) × Stand s (o + header_bytes + length f.bytes) fs

stand : (fs : List Value) (s pre : List ℕ) (o : ℕ) → s ≡ pre ++ joined fs → o ≡ length pre → Stand s o fs
unfolding joined
stand [] s pre o is start = tt
stand (f ∷ fs) s pre o is start = (
  rw (is, start) (value_stands pre f (joined fs)),
  stand fs s (pre ++ field_bytes f) (o + header_bytes + length f.bytes) (is ∙ sym (append_assoc pre (field_bytes f) (joined fs))) (omega (arith, length-append pre (field_bytes f))),
)

-- ---- the fields are well-formed

module _ (modulus factors pattern : List ℕ) (readings : Option (List ℕ)) (h : Lengths modulus factors pattern readings) where
  abbrev come₁ : List Field
  come₁ = placed (record { tag = 1; bytes = 1 ∷ [] }) 0 ∷ []

  abbrev come₂ : List Field
  come₂ = placed (record { tag = 2; bytes = modulus }) 4 ∷ come₁

  abbrev come₃ : List Field
  come₃ = placed (record { tag = 3; bytes = factors }) (7 + length modulus) ∷ come₂

  abbrev come₄ : List Field
  come₄ = placed (record { tag = 4; bytes = pattern }) (7 + length modulus + header_bytes + length factors) ∷ come₃

  version_fits : Fits 1 [] (record { tag = 1; bytes = 1 ∷ [] })
  unfolding tags part_of
  version_fits = record { fits = refl; above = omega arith; complete = refl; short = omega arith; tells = λ e. refl }

  modulus_fits : Fits 1 come₁ (record { tag = 2; bytes = modulus })
  unfolding tags part_of
  modulus_fits = record { fits = row_fits come₁ 2 (length modulus) (tags 1) h.four; above = omega arith; complete = refl; short = omega arith; tells = λ e. absurd (omega arith) }

  factors-fit : Fits 1 come₂ (record { tag = 3; bytes = factors })
  unfolding tags part_of
  factors-fit = record { fits = row_fits come₂ 3 (length factors) (tags 1) (h.fives, h.few); above = omega arith; complete = refl; short = omega arith; tells = λ e. absurd (omega arith) }

  pattern_fits : Fits 1 come₃ (record { tag = 4; bytes = pattern })
  unfolding tags part_of
  pattern_fits = record { fits = row_fits come₃ 4 (length pattern) (tags 1) (h.fours, h.small); above = omega arith; complete = refl; short = omega arith; tells = λ e. absurd (omega arith) }

  readings_fit : (given : List ℕ) → length given ≡ length pattern → Fits 1 come₄ (record { tag = 5; bytes = given })
  unfolding tags part_of
  readings_fit given e = record { fits = row_fits come₄ 5 (length given) (tags 1) e; above = omega arith; complete = refl; short = omega arith; tells = λ d. absurd (omega arith) }

  all_fit : (r : Option (List ℕ)) → ReadingsFit pattern r → WellFormed 1 [] 0 (version_1 modulus factors pattern r)
  unfolding tags part_of
  all_fit none e = (version_fits, (modulus_fits, (factors-fit, (pattern_fits, refl))))
  all_fit (some given) e = (version_fits, (modulus_fits, (factors-fit, (pattern_fits, (readings_fit given e, refl)))))

-- ---- the theorem

module _ (modulus factors pattern : List ℕ) where
  back : (s : List ℕ) (readings : Option (List ℕ)) → length modulus ≡ 4 → Stand s 0 (version_1 modulus factors pattern readings)
      → Back s (told s (accepted (all_placed (version_1 modulus factors pattern readings) [] 0))) modulus factors pattern readings
  unfolding all_placed part_of
  back s none four h = record {
    sheet = _;
    accepted = refl;
    modulus_is = sym (in_part 4 (length modulus) s 7 (omega arith)) ∙ ap (λ (l : List ℕ). big_endian 4 l 0) h.1.0;
    factors_are = h.1.1.0;
    pattern_is = h.1.1.1.0;
    readings_are = refl;
  }
  back s (some given) four h = record {
    sheet = _;
    accepted = refl;
    modulus_is = sym (in_part 4 (length modulus) s 7 (omega arith)) ∙ ap (λ (l : List ℕ). big_endian 4 l 0) h.1.0;
    factors_are = h.1.1.0;
    pattern_is = h.1.1.1.0;
    readings_are = ap Some h.1.1.1.1.0;
  }

  pub written_reads_back : (readings : Option (List ℕ)) → Lengths modulus factors pattern readings
      → let s = joined (version_1 modulus factors pattern readings) in Back s (sheet_of s) modulus factors pattern readings
  written_reads_back readings h =
      let fields = version_1 modulus factors pattern readings in
      let s = joined fields in
      rw (accepted_joined 1 refl fields (all_fit modulus factors pattern readings h readings h.same)) (back s readings h.four (stand fields s [] 0 refl refl))
