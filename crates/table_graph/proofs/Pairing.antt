-- The loop over the clauses, as laws of lists.
-- Assumes nothing.
use Prim.Native.Nat.{ℕ, suc, ◌+◌, ◌-◌, ◌*◌, ◌≤◌, ◌<◌}
use native.Mathlib.Numerals.{add-one}
use native.Mathlib.Omega.{arith}
use mathlib.Core.Path.{◌≡◌, refl, sym, ap, ◌∙◌}
use mathlib.Core.List.{List, [], ◌∷◌, ◌++◌, map}
use lib.ListN.{length, get_or, take, drop, length-map, length-drop}
use lib.Seq.{sets, drop-cons, length-take-le}
use lib.IntN.{ℤ, pos}
use Rattle.literal.specs.Literals.{slot_of, twin}
use Rattle.implications.specs.Clauses.{clause_froms, clause_tos, froms, tos}
use Rattle.tables.specs.Tables.{start_of, length_of}
use Rattle.tables.specs.Clauses.{slots_at, slots_from}
use Rattle.table_graph.specs.Pairs.{ClausesInside}

-- ---- a clause of two literals, and one of another length

pub pair_is : (cs : List ℕ) (ls : List ℤ) (i : ℕ) → length_of cs i ≡ 2 → start_of cs i + length_of cs i ≤ length ls
    → slots_at cs ls i ≡ slot_of (get_or ls (start_of cs i) (pos 0)) ∷ slot_of (get_or ls (start_of cs i + 1) (pos 0)) ∷ []
unfolding slots_at
pair_is cs ls i two fits =
    let s : ℕ = start_of cs i in
    ap (λ (n : ℕ). map slot_of (take n (drop s ls))) two
    ∙ ap (λ (l : List ℤ). map slot_of (take 2 l)) (drop-cons ls s (pos 0) (omega arith))
    ∙ ap (λ (l : List ℤ). slot_of (get_or ls s (pos 0)) ∷ map slot_of (take 1 l)) (drop-cons ls (suc s) (pos 0) (omega arith))
    ∙ ap (λ (j : ℕ). slot_of (get_or ls s (pos 0)) ∷ slot_of (get_or ls j (pos 0)) ∷ []) (sym (add-one s))

no_pair : (c : List ℕ) → (length c ≡ 2 → ⊥) → (clause_froms c ≡ []) × (clause_tos c ≡ [])
no_pair [] d = (refl, refl)
no_pair (a ∷ []) d = (refl, refl)
no_pair (a ∷ b ∷ []) d = absurd (d refl)
no_pair (a ∷ b ∷ c ∷ ls) d = (refl, refl)

clause_length : (cs : List ℕ) (ls : List ℤ) (i : ℕ) → start_of cs i + length_of cs i ≤ length ls → length (slots_at cs ls i) ≡ length_of cs i
unfolding slots_at
clause_length cs ls i fits =
    length-map (take (length_of cs i) (drop (start_of cs i) ls)) slot_of ∙ length-take-le (length_of cs i) (drop (start_of cs i) ls) (omega (arith, length-drop (start_of cs i) ls))

-- ---- the loop: what is left to store, from here, makes the whole

module _ (n : ℕ) (cs : List ℕ) (ls : List ℤ) where
  -- the clauses from record i on
  abbrev rest : ℕ → List (List ℕ)
  rest i = slots_from cs ls (n - i) i

  rest_step : (i : ℕ) → i < n → rest i ≡ slots_at cs ls i ∷ rest (i + 1)
  unfolding slots_from
  rest_step i lt =
      let e : n - i ≡ suc (n - (i + 1)) = omega arith in
      ap (λ (m : ℕ). slots_from cs ls m i) e ∙ ap (λ (j : ℕ). slots_at cs ls i ∷ slots_from cs ls (n - (i + 1)) j) (sym (add-one i))

  pub record Pairing (F₀ T₀ F T : List ℕ) (k i : ℕ) : Type 0 where
    pub few : k ≤ 2 * i
    pub count : k + length (froms (rest i)) ≡ length (froms (rest 0))
    pub from_same : sets F k (froms (rest i)) ≡ sets F₀ 0 (froms (rest 0))
    pub to_same : sets T k (tos (rest i)) ≡ sets T₀ 0 (tos (rest 0))

  module _ (F₀ T₀ F T : List ℕ) (k i : ℕ) (lt : i < n) (C : ClausesInside 1024 n cs ls) (P : Pairing F₀ T₀ F T k i) where
    pub pairing_in : (a b : ℕ) (F' T' : List ℕ) → length_of cs i ≡ 2 → a ≡ slot_of (get_or ls (start_of cs i) (pos 0)) → b ≡ slot_of (get_or ls (start_of cs i + 1) (pos 0))
        → F' ≡ sets F k (twin a ∷ twin b ∷ []) → T' ≡ sets T k (b ∷ a ∷ []) → Pairing F₀ T₀ F' T' (k + 2) (i + 1)
    unfolding froms tos
    pairing_in a b F' T' two ea eb ef et =
        let clause : slots_at cs ls i ≡ a ∷ b ∷ [] = pair_is cs ls i two (C.parts i lt) ∙ ap (λ (x : ℕ). x ∷ slot_of (get_or ls (start_of cs i + 1) (pos 0)) ∷ []) (sym ea) ∙ ap (λ (x : ℕ). a ∷ x ∷ []) (sym eb) in
        let step : rest i ≡ (a ∷ b ∷ []) ∷ rest (i + 1) = rest_step i lt ∙ ap (λ (c : List ℕ). c ∷ rest (i + 1)) clause in
        let next : k + 2 ≡ suc (suc k) = omega arith in
        record {
          few = omega (arith, P.few);
          count = omega (arith, P.count, ap (λ (r : List (List ℕ)). length (froms r)) step);
          from_same =
              ap (λ (l : List ℕ). sets l (k + 2) (froms (rest (i + 1)))) ef
              ∙ ap (λ (j : ℕ). sets (sets F k (twin a ∷ twin b ∷ [])) j (froms (rest (i + 1)))) next
              ∙ ap (λ (r : List (List ℕ)). sets F k (froms r)) (sym step)
              ∙ P.from_same;
          to_same =
              ap (λ (l : List ℕ). sets l (k + 2) (tos (rest (i + 1)))) et
              ∙ ap (λ (j : ℕ). sets (sets T k (b ∷ a ∷ [])) j (tos (rest (i + 1)))) next
              ∙ ap (λ (r : List (List ℕ)). sets T k (tos r)) (sym step)
              ∙ P.to_same;
        }

    pub pairing_out : (length_of cs i ≡ 2 → ⊥) → Pairing F₀ T₀ F T k (i + 1)
    unfolding froms tos
    pairing_out d =
        let none = no_pair (slots_at cs ls i) (λ e. d (sym (clause_length cs ls i (C.parts i lt)) ∙ e)) in
        let f : froms (rest i) ≡ froms (rest (i + 1)) = ap froms (rest_step i lt) ∙ ap (λ (l : List ℕ). l ++ froms (rest (i + 1))) none.0 in
        let t : tos (rest i) ≡ tos (rest (i + 1)) = ap tos (rest_step i lt) ∙ ap (λ (l : List ℕ). l ++ tos (rest (i + 1))) none.1 in
        record {
          few = omega (arith, P.few);
          count = omega (arith, P.count, ap length f);
          from_same = ap (sets F k) (sym f) ∙ P.from_same;
          to_same = ap (sets T k) (sym t) ∙ P.to_same;
        }

  pub pairing_done : (F₀ T₀ F T : List ℕ) (k i : ℕ) → n ≤ i → Pairing F₀ T₀ F T k i
      → (k ≡ length (froms (slots_from cs ls n 0))) × ((F ≡ sets F₀ 0 (froms (slots_from cs ls n 0))) × (T ≡ sets T₀ 0 (tos (slots_from cs ls n 0))))
  unfolding froms tos slots_from
  pairing_done F₀ T₀ F T k i over P =
      let nil : rest i ≡ [] = ap (λ (m : ℕ). slots_from cs ls m i) (let z : n - i ≡ 0 = omega arith in z) in
      let all : rest 0 ≡ slots_from cs ls n 0 = ap (λ (m : ℕ). slots_from cs ls m 0) (let z : n - 0 ≡ n = omega arith in z) in (
        omega (arith, P.count, ap (λ (r : List (List ℕ)). length (froms r)) nil, ap (λ (r : List (List ℕ)). length (froms r)) all),
        (
          ap (λ (r : List (List ℕ)). sets F k (froms r)) (sym nil) ∙ P.from_same ∙ ap (λ (r : List (List ℕ)). sets F₀ 0 (froms r)) all,
          ap (λ (r : List (List ℕ)). sets T k (tos r)) (sym nil) ∙ P.to_same ∙ ap (λ (r : List (List ℕ)). sets T₀ 0 (tos r)) all,
        ),
      )
