-- The clauses that Write gives are of the variables 1 to V, and their text is short: a literal takes at most 6 bytes with its space, and the standing clauses have at most 16,384 literals, since no two parts overlap.
-- Assumes nothing.
use Prim.Native.Nat.{ℕ, zero, suc, ◌+◌, ◌*◌, ◌^◌, ◌≤◌, ◌<◌}
use native.Mathlib.Omega.{arith}
use mathlib.Core.Path.{◌≡◌, refl}
use mathlib.Core.Bool.{Bool, true, false}
use mathlib.Core.Logic.{⊎_elim}
use mathlib.Core.List.{List, [], ◌∷◌, ◌++◌}
use lib.ListN.{length, get_or, take, drop, length-append, length-take}
use lib.Seq.{drop-cons}
use lib.IntN.{ℤ, pos, negsuc, neg_ℤ, nat_abs}
use lib.Signed.{non_neg}
use Rattle.base.specs.Decide.{le_or}
use Rattle.literal.specs.Literals.{Literal, eq_z, lit_by}
use Rattle.literal.proofs.Signed.{abs_neg}
use Rattle.state.specs.declared.State.{State}
use Rattle.tables.specs.Tables.{Tables, start_of, length_of, standing, class_of, value_of}
use Rattle.tables.specs.Clauses.{literals_of}
use Rattle.shape.specs.Shape.{Parts, Shape}
use Rattle.printing.specs.Printing.{literal_text, clause_text, clauses_text, header_text, digits}
use Rattle.printing.proofs.Storing.{digits_within, header_length}
use Rattle.literal.specs.Ranged.{InClause, InClauses, total}
use Rattle.literal.proofs.Ranged.{in_append, total_append}
use Rattle.write.specs.Gathered.{gathered, own_value, unit_for, class_for, clause_for, unit_at, class_at, written_at}
use Rattle.write.specs.Printable.{Printable}
use Rattle.write.proofs.Gathering.{gathered_every}

-- ---- a number and its digits

pub digits_four : (n : ℕ) → n < 10000 → length (digits n) ≤ 4
digits_four n h = digits_within 3 n h

pub literal_short : (l : ℤ) → nat_abs l ≤ 1024 → length (literal_text l) ≤ 5
literal_short (pos n) h = omega (arith, digits_four n (omega arith))
literal_short (negsuc n) h = omega (arith, digits_four (suc n) (omega arith))

-- ---- lists of clauses

in_gathered : (v : ℕ) (f : ℕ → List (List ℤ)) (n : ℕ) → ((k : ℕ) → k < n → InClauses v (f k)) → InClauses v (gathered f n 0)
unfolding InClauses
in_gathered v f n each = gathered_every (InClauses v) tt (in_append v) f n n 0 (omega arith) each

-- a size of lists of clauses that adds up, of which no record gives more than b
module _ (size : List (List ℤ) → ℕ) (none : size [] ≡ 0) (add : (xs ys : List (List ℤ)) → size (xs ++ ys) ≡ size xs + size ys) (f : ℕ → List (List ℤ)) where
  at_most_one : ((k : ℕ) → size (f k) ≤ 1) → (m i : ℕ) → size (gathered f m i) ≤ m
  unfolding gathered
  at_most_one h zero i = omega (arith, none)
  at_most_one h (suc m) i = omega (arith, add (f i) (gathered f m (suc i)), h i, at_most_one h m (suc i))

  at_most_four : ((k : ℕ) → size (f k) ≤ 4) → (m i : ℕ) → size (gathered f m i) ≤ 4 * m
  unfolding gathered
  at_most_four h zero i = omega (arith, none)
  at_most_four h (suc m) i = omega (arith, add (f i) (gathered f m (suc i)), h i, at_most_four h m (suc i))

-- the text of a clause and of clauses
clause_short : (v : ℕ) (c : List ℤ) → v ≤ 1024 → InClause v c → length (clause_text c) ≤ 6 * length c + 2
unfolding clause_text InClause
clause_short v [] h e = omega arith
clause_short v (l ∷ ls) h e = omega (arith, length-append (literal_text l) (32 ∷ clause_text ls), literal_short l (omega (arith, e.1.0)), clause_short v ls h e.1.1)

pub clauses_short : (v : ℕ) (cs : List (List ℤ)) → v ≤ 1024 → InClauses v cs → length (clauses_text cs) ≤ 6 * total cs + 2 * length cs
unfolding clauses_text InClauses total
clauses_short v [] h e = omega arith
clauses_short v (c ∷ cs) h e = omega (arith, length-append (clause_text c) (clauses_text cs), clause_short v c h e.0, clauses_short v cs h e.1)

-- ---- what one record gives

pub unit_one : (w : ℕ) (value : ℤ) → (length (unit_for w value) ≤ 1) × (total (unit_for w value) ≤ 1)
unfolding total
unit_one w value = go (nat_abs value)
  where
    some : List (List ℤ)
    some = (lit_by (non_neg value) w ∷ []) ∷ []

    go : (n : ℕ) → (length {A = List ℤ} (elim n [ zero ↦ [] | suc _ ↦ some ]) ≤ 1) × (total (elim n [ zero ↦ [] | suc _ ↦ some ]) ≤ 1)
    go zero = (omega arith, omega arith)
    go (suc n) = (omega arith, omega arith)

class_four : (w : ℕ) (class : ℤ) → (length (class_for w class) ≤ 2) × (total (class_for w class) ≤ 4)
unfolding total
class_four w class = go (eq_z class (pos w))
  where
    some : List (List ℤ)
    some = (pos w ∷ neg_ℤ class ∷ []) ∷ (neg_ℤ (pos w) ∷ class ∷ []) ∷ []

    go : (b : Bool) → (length {A = List ℤ} (elim b [ true ↦ [] | false ↦ some ]) ≤ 2) × (total (elim b [ true ↦ [] | false ↦ some ]) ≤ 4)
    go true = (omega arith, omega arith)
    go false = (omega arith, omega arith)

pub clause_one : (flag : ℕ) (c : List ℤ) → (length (clause_for flag c) ≤ 1) × (total (clause_for flag c) ≤ length c)
unfolding total
clause_one zero c = (omega arith, omega arith)
clause_one (suc flag) c = (omega arith, omega arith)

pub abs_lit : (b : Bool) (w : ℕ) → nat_abs (lit_by b w) ≡ w
abs_lit true w = refl
abs_lit false w = abs_neg (pos w)

unit_in : (v w : ℕ) (value : ℤ) → 0 < w → w ≤ v → InClauses v (unit_for w value)
unfolding InClauses InClause
unit_in v w value a b = go (nat_abs value)
  where
    l : ℤ
    l = lit_by (non_neg value) w

    go : (n : ℕ) → InClauses v (elim n [ zero ↦ [] | suc _ ↦ (l ∷ []) ∷ [] ])
    go zero = tt
    go (suc n) = ((omega (arith, abs_lit (non_neg value) w), (omega (arith, abs_lit (non_neg value) w), tt)), tt)

class_in : (v w : ℕ) (class : ℤ) → 0 < w → w ≤ v → Literal w class → InClauses v (class_for w class)
unfolding InClauses InClause
class_in v w class a b L = go (eq_z class (pos w))
  where
    go : (t : Bool) → InClauses v (elim t [ true ↦ [] | false ↦ (pos w ∷ neg_ℤ class ∷ []) ∷ (neg_ℤ (pos w) ∷ class ∷ []) ∷ [] ])
    go true = tt
    go false = (
      (a, (b, (omega (arith, abs_neg class, L.above), (omega (arith, abs_neg class, L.within), tt)))),
      ((omega (arith, abs_neg (pos w)), (omega (arith, abs_neg (pos w)), (L.above, (omega (arith, L.within), tt)))), tt),
    )

pub part_in : (v : ℕ) (ls : List ℤ) (m start : ℕ) → start + m ≤ length ls → ((k : ℕ) → k < m → Literal v (get_or ls (start + k) (pos 0))) → InClause v (take m (drop start ls))
unfolding InClause
part_in v ls zero start h r = tt
part_in v ls (suc m) start h r =
    let z : start + 0 ≡ start = omega arith in
    let L : Literal v (get_or ls start (pos 0)) = rw z at (r 0 (omega arith)) in
    rw (drop-cons ls start (pos 0) (omega arith)) (L.above, (L.within, part_in v ls m (suc start) (omega arith) (λ k l. let e : start + suc k ≡ suc start + k = omega arith in rw e at (r (suc k) (omega arith)))))

clause_in : (v flag : ℕ) (c : List ℤ) → InClause v c → InClauses v (clause_for flag c)
unfolding InClauses
clause_in v zero c h = tt
clause_in v (suc flag) c h = (h, tt)

-- ---- no two parts overlap, so the standing clauses from record i on have at most 16,384 literals less those places that lie in front of them

standing_sum : (clauses : List ℕ) (ls : List ℤ) (n : ℕ) → Parts n clauses → 16384 ≤ length ls
    → (m i floor : ℕ) → i + m ≡ n → floor ≤ 16384 → ((j : ℕ) → i ≤ j → j < n → 0 < length_of clauses j → floor ≤ start_of clauses j)
    → total (gathered (written_at clauses ls) m i) + floor ≤ 16384
unfolding gathered total
standing_sum clauses ls n P long zero i floor e f h = omega arith
standing_sum clauses ls n P long (suc m) i floor e f h = ⊎_elim
    (λ (z : length_of clauses i ≤ 0). omega (arith, sum, own, standing_sum clauses ls n P long m (suc i) floor (omega arith) f (λ j a b c. h j (omega arith) b c)))
    (λ (z : 0 < length_of clauses i). omega (arith, sum, own, h i (omega arith) (omega arith) z, standing_sum clauses ls n P long m (suc i) (start_of clauses i + length_of clauses i) (omega arith) (P.inside i (omega arith)) (λ j a b c. P.apart j b i (omega arith) z c)))
    (le_or (length_of clauses i) 0)
  where
    sum : total (written_at clauses ls i ++ gathered (written_at clauses ls) m (suc i)) ≡ total (written_at clauses ls i) + total (gathered (written_at clauses ls) m (suc i))
    sum = total_append (written_at clauses ls i) (gathered (written_at clauses ls) m (suc i))

    own : total (written_at clauses ls i) ≤ length_of clauses i
    own = omega (arith, (clause_one (standing clauses i) (literals_of clauses ls i)).1, length-take (length_of clauses i) (drop (start_of clauses i) ls))

-- ---- how many clauses and literals there are at most

pub units_count : (variables : List ℤ) (v : ℕ) → (length (gathered (unit_at variables) v 0) ≤ v) × (total (gathered (unit_at variables) v 0) ≤ v)
unfolding total
units_count variables v = (
  at_most_one (λ cs. length cs) refl (λ xs ys. length-append xs ys) (unit_at variables) (λ k. (unit_one (k + 1) (own_value (k + 1) (class_of variables (k + 1)) (value_of variables (k + 1)))).0) v 0,
  at_most_one total refl total_append (unit_at variables) (λ k. (unit_one (k + 1) (own_value (k + 1) (class_of variables (k + 1)) (value_of variables (k + 1)))).1) v 0,
)

pub classes_count : (variables : List ℤ) (v : ℕ) → (length (gathered (class_at variables) v 0) ≤ 4 * v) × (total (gathered (class_at variables) v 0) ≤ 4 * v)
unfolding total
classes_count variables v = (
  at_most_four (λ cs. length cs) refl (λ xs ys. length-append xs ys) (class_at variables) (λ k. omega (arith, (class_four (k + 1) (class_of variables (k + 1))).0)) v 0,
  at_most_four total refl total_append (class_at variables) (λ k. (class_four (k + 1) (class_of variables (k + 1))).1) v 0,
)

pub standing_count : (clauses : List ℕ) (literals : List ℤ) (n : ℕ) → length (gathered (written_at clauses literals) n 0) ≤ n
standing_count clauses literals n = at_most_one (λ cs. length cs) refl (λ xs ys. length-append xs ys) (written_at clauses literals) (λ k. (clause_one (standing clauses k) (literals_of clauses literals k)).0) n 0

-- ---- tables that are ready

pub ready : (t : Tables) (st : State) → Shape t st → Printable t.clauses t.literals t.variables st.v st.n
ready t st S = record {
  v_limit = S.v_limit;
  n_limit = S.n_limit;
  rows = omega (arith, S.long.clauses, S.n_limit);
  places = S.long.literals;
  pairs = omega (arith, S.long.variables, S.v_limit);
  parts = S.clauses.parts;
  ranged = λ i l. (S.clauses.each i l).ranged;
  classes = λ w l. (S.variables w l).class;
}

module _ (clauses : List ℕ) (literals variables : List ℤ) (v n : ℕ) (R : Printable clauses literals variables v n) where
  pub units_in : InClauses v (gathered (unit_at variables) v 0)
  units_in = in_gathered v (unit_at variables) v (λ k l. unit_in v (k + 1) (own_value (k + 1) (class_of variables (k + 1)) (value_of variables (k + 1))) (omega arith) (omega arith))

  pub classes_in : InClauses v (gathered (class_at variables) v 0)
  classes_in = in_gathered v (class_at variables) v (λ k l. class_in v (k + 1) (class_of variables (k + 1)) (omega arith) (omega arith) (R.classes k l))

  pub standing_in : InClauses v (gathered (written_at clauses literals) n 0)
  standing_in = in_gathered v (written_at clauses literals) n
      (λ k l. clause_in v (standing clauses k) (literals_of clauses literals k) (part_in v literals (length_of clauses k) (start_of clauses k) (omega (arith, R.parts.inside k l, R.places)) (R.ranged k l)))

  pub standing_total : total (gathered (written_at clauses literals) n 0) ≤ 16384
  standing_total = omega (arith, standing_sum clauses literals n R.parts R.places n 0 0 (omega arith) (omega arith) (λ j a b c. omega arith))

  pub header_short : (k : ℕ) → k < 10000 → length (header_text v k) ≤ 16
  header_short k h = omega (arith, header_length v k, digits_four v (omega (arith, R.v_limit)), digits_four k h)

  -- a header and all clauses are short
  pub text_short : (k : ℕ) → k < 10000
      → length (header_text v k) + length (clauses_text (gathered (unit_at variables) v 0)) + length (clauses_text (gathered (class_at variables) v 0)) + length (clauses_text (gathered (written_at clauses literals) n 0)) < 2 ^ 63
  text_short k h = omega (
    arith,
    header_short k h,
    R.v_limit,
    R.n_limit,
    clauses_short v (gathered (unit_at variables) v 0) R.v_limit units_in,
    clauses_short v (gathered (class_at variables) v 0) R.v_limit classes_in,
    clauses_short v (gathered (written_at clauses literals) n 0) R.v_limit standing_in,
    (units_count variables v).0,
    (units_count variables v).1,
    (classes_count variables v).0,
    (classes_count variables v).1,
    standing_count clauses literals n,
    standing_total,
  )
