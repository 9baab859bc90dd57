-- What one record gives: no clause, one or two, and their text. Assumes nothing.
use Prim.Native.Nat.{ℕ, zero, suc, ◌+◌, ◌≤◌, ◌<◌}
use native.Mathlib.Nat.{add-zero}
use native.Mathlib.Omega.{arith}
use mathlib.Core.Path.{◌≡◌, refl, sym, ap, ◌∙◌, subst}
use mathlib.Core.List.{List, [], ◌∷◌, ◌++◌, append-nil}
use lib.ListN.{length, get_or, take, drop, length-append, length-take}
use lib.Seq.{get_or-take, get_or-drop}
use lib.IntN.{ℤ, pos, negsuc, neg_ℤ, nat_abs}
use lib.Signed.{non_neg}
use Rattle.literal.specs.Literals.{Small, Literal, lit_by, EachSmall}
use Rattle.literal.proofs.Signed.{eq_eq_z, ne_eq_z}
use Rattle.printing.specs.Printing.{clause_text, clauses_text}
use Rattle.printing.specs.Stored.{Wrote}
use Rattle.printing.specs.declared.Writer.{Writer}
use Rattle.printing.proofs.Storing.{wrote_then, wrote_as}
use Rattle.write.specs.Gathered.{own_value, unit_for, class_for, clause_for}

pub own_value_lem : (w : ℕ) (class value : ℤ) → class ≡ pos w → own_value w class value ≡ value
own_value_lem w class value e = rw (eq_eq_z class (pos w) e, own_value)

pub other_value : (w : ℕ) (class value : ℤ) → (class ≡ pos w → ⊥) → own_value w class value ≡ pos 0
other_value w class value n = rw (ne_eq_z class (pos w) n, own_value)

pub unit_none : (w : ℕ) (value : ℤ) → value ≡ pos 0 → unit_for w value ≡ []
unit_none w value e = rw e

pub unit_some : (w : ℕ) (value : ℤ) → 0 < nat_abs value → unit_for w value ≡ (lit_by (non_neg value) w ∷ []) ∷ []
unit_some w (pos zero) h = absurd (omega arith)
unit_some w (pos (suc n)) h = refl
unit_some w (negsuc n) h = refl

pub class_none : (w : ℕ) (class : ℤ) → class ≡ pos w → class_for w class ≡ []
class_none w class e = rw (eq_eq_z class (pos w) e, class_for)

pub class_some : (w : ℕ) (class : ℤ) → (class ≡ pos w → ⊥) → class_for w class ≡ (pos w ∷ neg_ℤ class ∷ []) ∷ (neg_ℤ (pos w) ∷ class ∷ []) ∷ []
class_some w class n = rw (ne_eq_z class (pos w) n, class_for)

pub clause_none : (flag : ℕ) (c : List ℤ) → flag ≡ 0 → clause_for flag c ≡ []
clause_none flag c e = rw e

pub clause_some : (flag : ℕ) (c : List ℤ) → (flag ≡ 0 → ⊥) → clause_for flag c ≡ c ∷ []
clause_some zero c n = absurd (n refl)
clause_some (suc flag) c n = refl

-- ---- no clause, one clause, two clauses

pub wrote_none : {cs : List (List ℤ)} {w : Writer} → cs ≡ [] → Wrote (clauses_text cs) w w
unfolding clauses_text
wrote_none {cs} {w} e = rw e (record { bytes_stored = record { next = sym (add-zero w.at); stored = refl }; same_reference = refl })

one_text : (c : List ℤ) → clauses_text (c ∷ []) ≡ clause_text c
unfolding clauses_text
one_text c = append-nil (clause_text c)

two_text : (c d : List ℤ) → clauses_text (c ∷ d ∷ []) ≡ clause_text c ++ clause_text d
unfolding clauses_text
two_text c d = ap (λ (s : List ℕ). clause_text c ++ s) (append-nil (clause_text d))

module _ {cs : List (List ℤ)} {c : List ℤ} (e : cs ≡ c ∷ []) where
  pub one_length : length (clauses_text cs) ≡ length (clause_text c)
  one_length = ap length (ap clauses_text e ∙ one_text c)

  pub wrote_one : {w v : Writer} → Wrote (clause_text c) w v → Wrote (clauses_text cs) w v
  wrote_one s = wrote_as s (ap clauses_text e ∙ one_text c)

module _ {cs : List (List ℤ)} {c d : List ℤ} (e : cs ≡ c ∷ d ∷ []) where
  pub two_length : length (clauses_text cs) ≡ length (clause_text c) + length (clause_text d)
  two_length = ap length (ap clauses_text e ∙ two_text c d) ∙ length-append (clause_text c) (clause_text d)

  pub wrote_two : {w v u : Writer} → Wrote (clause_text c) w v → Wrote (clause_text d) v u → Wrote (clauses_text cs) w u
  wrote_two s t = wrote_as (wrote_then s t) (ap clauses_text e ∙ two_text c d)

-- ---- literals that an i32 holds with their complements

pub small_one : {a : ℤ} → Small a → EachSmall (a ∷ [])
small_one {a} s = record { each = go }
  where
    go : (k : ℕ) → k < 1 → Small (get_or (a ∷ []) k (pos 0))
    go zero h = s
    go (suc k) h = absurd (omega arith)

pub small_two : {a b : ℤ} → Small a → Small b → EachSmall (a ∷ b ∷ [])
small_two {a} {b} s t = record { each = go }
  where
    go : (k : ℕ) → k < 2 → Small (get_or (a ∷ b ∷ []) k (pos 0))
    go zero h = s
    go (suc k) h = (small_one t).each k (omega arith)

pub literal_small : {v : ℕ} {l : ℤ} → v ≤ 1024 → Literal v l → Small l
literal_small h L = record { small = omega (arith, L.within) }

-- the literals of a part, none of which is the smallest i32
pub part_small : (ls : List ℤ) (len start : ℕ) → ((k : ℕ) → k < len → Literal 1024 (get_or ls (start + k) (pos 0))) → EachSmall (take len (drop start ls))
part_small ls len start r = record {
  each = λ k lt.
      let h : k < len = omega (arith, lt, length-take len (drop start ls)) in
      subst Small (sym (get_or-take len (drop start ls) k (pos 0) h ∙ get_or-drop start ls k (pos 0))) (literal_small (omega arith) (r k h));
}
