-- How many numbers the clauses take in the numbers that were kept of a text, and what stands there: each clause and a 0 behind it. Assumes nothing.
use Prim.Native.Nat.{ℕ, zero, suc, ◌+◌, ◌-◌, ◌≤◌, ◌<◌}
use native.Mathlib.Omega.{arith}
use native.Mathlib.Numerals.{add-one}
use mathlib.Core.Path.{◌≡◌, refl, sym, ap, ◌∙◌}
use mathlib.Core.Bool.{Bool, true, false}
use mathlib.Core.List.{List, [], ◌∷◌, ◌++◌, append_assoc}
use lib.ListN.{length, get_or, drop, length-append, length-drop}
use lib.Seq.{drop-cons, drop-drop}
use lib.IntN.{ℤ, pos}
use Rattle.literal.specs.Literals.{eq_z}
use Rattle.literal.specs.Ranged.{InClauses, total}
use Rattle.literal.proofs.Signed.{eq_z_true, ne_eq_z}
use Rattle.dimacs.specs.Numbers.{first_clause, clauses_in}
use Rattle.dimacs.proofs.Accepted.{clauses_next}

-- ---- the size of the first n clauses, as a walk over the numbers finds it

abbrev pub size_in : ℕ → List ℤ → ℕ
size_in n ns = total (clauses_in n ns) + n

size_nought : (n : ℕ) (ns : List ℤ) → size_in (suc n) (pos 0 ∷ ns) ≡ suc (size_in n ns)
unfolding clauses_in total
size_nought n ns = omega arith

size_literal : (n : ℕ) (x : ℤ) (ns : List ℤ) → eq_z x (pos 0) ≡ false → size_in (suc n) (x ∷ ns) ≡ suc (size_in (suc n) ns)
unfolding clauses_in total
size_literal n x ns e = rw (e, first_clause) (omega arith)

-- the walk stands at i, with `left` clauses to come
pub record Counting (numbers : List ℤ) (n left i : ℕ) : Type 0 where
  pub some : size_in n numbers ≤ length numbers
  pub is : i + size_in left (drop i numbers) ≡ size_in n numbers

pub counting_none : {numbers : List ℤ} {n : ℕ} → size_in n numbers ≤ length numbers → Counting numbers n n 0
counting_none h = record { some = h; is = omega arith }

module _ {numbers : List ℤ} {n left i : ℕ} (C : Counting numbers n left i) (h : 0 < left) where
  pub inside : i < length numbers
  inside = omega (arith, C.some, C.is, h)

  one : left ≡ suc (left - 1)
  one = omega arith

  here : drop i numbers ≡ get_or numbers i (pos 0) ∷ drop (i + 1) numbers
  here = drop-cons numbers i (pos 0) inside ∙ ap (λ (k : ℕ). get_or numbers i (pos 0) ∷ drop k numbers) (sym (add-one i))

  pub counting_nought : get_or numbers i (pos 0) ≡ pos 0 → Counting numbers n (left - 1) (i + 1)
  counting_nought e = record {
    some = C.some;
    is =
        let q : size_in left (drop i numbers) ≡ suc (size_in (left - 1) (drop (i + 1) numbers)) = (λ j. size_in (one j) (here j)) ∙ ap (λ (z : ℤ). size_in (suc (left - 1)) (z ∷ drop (i + 1) numbers)) e ∙ size_nought (left - 1) (drop (i + 1) numbers) in
        omega (arith, q, C.is);
  }

  pub counting_literal : (get_or numbers i (pos 0) ≡ pos 0 → ⊥) → Counting numbers n left (i + 1)
  counting_literal e = record {
    some = C.some;
    is =
        let q : size_in left (drop i numbers) ≡ suc (size_in (suc (left - 1)) (drop (i + 1) numbers)) = (λ j. size_in (one j) (here j)) ∙ size_literal (left - 1) (get_or numbers i (pos 0)) (drop (i + 1) numbers) (ne_eq_z (get_or numbers i (pos 0)) (pos 0) e) in
        let r : size_in (suc (left - 1)) (drop (i + 1) numbers) ≡ size_in left (drop (i + 1) numbers) = ap (λ (k : ℕ). size_in k (drop (i + 1) numbers)) (sym one) in
        omega (arith, q, r, C.is);
  }

pub counted : {numbers : List ℤ} {n left i : ℕ} → Counting numbers n left i → left ≡ 0 → i ≡ size_in n numbers
unfolding clauses_in total
counted {numbers} {n} {left} {i} C z = let q : size_in left (drop i numbers) ≡ 0 = ap (λ (k : ℕ). size_in k (drop i numbers)) z in omega (arith, q, C.is)

-- ---- what stands there

-- clauses as numbers: each with the 0 that ends it
unfoldable pub numbers_of : List (List ℤ) → List ℤ
numbers_of [] = []
numbers_of (c ∷ cs) = c ++ (pos 0 ∷ numbers_of cs)

-- the first clause of x and what follows, by whether x is 0
abbrev first_by : Bool → ℤ → List ℤ → List ℤ
first_by b x ns = elim b [ true ↦ [] | false ↦ x ∷ first_clause ns ]

-- a clause that ends before the numbers do has a 0 behind it
clause_ends : (ns : List ℤ) → length (first_clause ns) < length ns → ns ≡ first_clause ns ++ (pos 0 ∷ drop (suc (length (first_clause ns))) ns)
clause_ends [] h = absurd (omega arith)
clause_ends (x ∷ ns) h = by (eq_z x (pos 0)) refl (clause_ends ns) h
  where
    by : (b : Bool) → eq_z x (pos 0) ≡ b → (length (first_clause ns) < length ns → ns ≡ first_clause ns ++ (pos 0 ∷ drop (suc (length (first_clause ns))) ns))
        → length (first_by b x ns) < suc (length ns) → x ∷ ns ≡ first_by b x ns ++ (pos 0 ∷ drop (length (first_by b x ns)) ns)
    by true e rest h = ap (λ (z : ℤ). z ∷ ns) (eq_z_true x (pos 0) e)
    by false e rest h = ap (λ (l : List ℤ). x ∷ l) (rest (omega (arith, h)))

pub numbers_are : (n : ℕ) (ns : List ℤ) → size_in n ns ≤ length ns → ns ≡ numbers_of (clauses_in n ns) ++ drop (size_in n ns) ns
unfolding numbers_of clauses_in total
numbers_are zero ns h = refl
numbers_are (suc n) ns h =
    let c : List ℤ = first_clause ns in
    let rest : List ℤ = drop (suc (length c)) ns in
    let m : length rest ≡ length ns - suc (length c) = length-drop (suc (length c)) ns in
    let e : rest ≡ numbers_of (clauses_in n rest) ++ drop (size_in n rest) rest = numbers_are n rest (omega (arith, h, m)) in
    let q : suc (length c) + size_in n rest ≡ size_in (suc n) ns = omega arith in
    let d : drop (size_in n rest) rest ≡ drop (size_in (suc n) ns) ns = drop-drop (size_in n rest) (suc (length c)) ns ∙ ap (λ (k : ℕ). drop k ns) q in
    clause_ends ns (omega (arith, h))
    ∙ ap (λ (l : List ℤ). c ++ (pos 0 ∷ l)) (e ∙ ap (λ (l : List ℤ). numbers_of (clauses_in n rest) ++ l) d)
    ∙ sym (append_assoc c (pos 0 ∷ numbers_of (clauses_in n rest)) (drop (size_in (suc n) ns) ns))

pub numbers_length : (cs : List (List ℤ)) → length (numbers_of cs) ≡ total cs + length cs
unfolding numbers_of total
numbers_length [] = refl
numbers_length (c ∷ cs) = omega (arith, length-append c (pos 0 ∷ numbers_of cs), numbers_length cs)

pub numbers_append : (cs ds : List (List ℤ)) → numbers_of (cs ++ ds) ≡ numbers_of cs ++ numbers_of ds
unfolding numbers_of
numbers_append [] ds = refl
numbers_append (c ∷ cs) ds = ap (λ (l : List ℤ). c ++ (pos 0 ∷ l)) (numbers_append cs ds) ∙ sym (append_assoc c (pos 0 ∷ numbers_of cs) (numbers_of ds))

-- the clauses in the numbers of clauses, whatever stands behind
pub clauses_back : (v : ℕ) (cs : List (List ℤ)) (rest : List ℤ) → InClauses v cs → clauses_in (length cs) (numbers_of cs ++ rest) ≡ cs
unfolding numbers_of clauses_in InClauses
clauses_back v [] rest I = refl
clauses_back v (c ∷ cs) rest I =
    ap (clauses_in (suc (length cs))) (append_assoc c (pos 0 ∷ numbers_of cs) rest) ∙ clauses_next v (length cs) c (numbers_of cs ++ rest) I.0 ∙ ap (λ (ds : List (List ℤ)). c ∷ ds) (clauses_back v cs rest I.1)
