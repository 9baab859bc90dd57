-- The tables that a load lays, place by place: the record of clause i, its literals, and each variable its own class with no value. Assumes nothing.
use Prim.Native.Nat.{ℕ, zero, suc, ◌+◌, ◌*◌, ◌-◌, ◌≤◌, ◌<◌}
use native.Mathlib.Omega.{arith}
use native.Mathlib.Nat.{add-zero}
use mathlib.Core.Path.{◌≡◌, refl, sym, ap, ◌∙◌}
use mathlib.Core.Bool.{true, false}
use mathlib.Core.List.{List, [], ◌∷◌, ◌++◌, append_assoc}
use lib.ListN.{length, get_or, length-append}
use lib.IntN.{ℤ, pos}
use Rattle.literal.specs.Clauses.{tautology}
use Rattle.tables.specs.Tables.{start_of, length_of}
use Rattle.tables.specs.Tables as T
use Rattle.load.specs.Load.{kept_of, clause_records, literal_places, variable_records}

-- the clause with number i, and the places that the clauses before it take
abbrev pub nth : List (List ℤ) → ℕ → List ℤ
nth cs i = get_or cs i []

unfoldable pub before : List (List ℤ) → ℕ → ℕ
before [] i = 0
before (c ∷ cs) zero = 0
before (c ∷ cs) (suc i) = length (kept_of c) + before cs i

abbrev pub flagged : List ℤ → ℕ
flagged c = elim (tautology c) [ true ↦ 0 | false ↦ 1 ]

-- ---- records

pub record Recorded (c : List ℕ) (i start len flag : ℕ) : Type 0 where
  pub start_is : start_of c i ≡ start
  pub length_is : length_of c i ≡ len
  pub flag_is : T.standing c i ≡ flag

pub record_at_lem : (cs : List (List ℤ)) (at i : ℕ) (rest : List ℕ) → i < length cs → Recorded (clause_records at cs ++ rest) i (at + before cs i) (length (kept_of (nth cs i))) (flagged (nth cs i))
unfolding clause_records before
record_at_lem [] at i rest h = absurd (omega arith)
record_at_lem (c ∷ cs) at zero rest h = record { start_is = sym (add-zero at); length_is = refl; flag_is = refl }
record_at_lem (c ∷ cs) at (suc i) rest h =
    let r = record_at_lem cs (at + length (kept_of c)) i rest (omega arith) in
    let all : List ℕ = at ∷ length (kept_of c) ∷ flagged c ∷ (clause_records (at + length (kept_of c)) cs ++ rest) in
    record {
      start_is = ap (λ (k : ℕ). get_or all k 0) (let e : 3 * suc i ≡ suc (suc (suc (3 * i))) = omega arith in e) ∙ r.start_is ∙ (let e : at + length (kept_of c) + before cs i ≡ at + (length (kept_of c) + before cs i) = omega arith in e);
      length_is = ap (λ (k : ℕ). get_or all k 0) (let e : 3 * suc i + 1 ≡ suc (suc (suc (3 * i + 1))) = omega arith in e) ∙ r.length_is;
      flag_is = ap (λ (k : ℕ). get_or all k 0) (let e : 3 * suc i + 2 ≡ suc (suc (suc (3 * i + 2))) = omega arith in e) ∙ r.flag_is;
    }

-- ---- places

get_d_front : {A : Type 0} (xs ys : List A) (k : ℕ) (d : A) → k < length xs → get_or (xs ++ ys) k d ≡ get_or xs k d
get_d_front [] ys k d h = absurd (omega arith)
get_d_front (x ∷ xs) ys zero d h = refl
get_d_front (x ∷ xs) ys (suc k) d h = get_d_front xs ys k d (omega arith)

get_d_behind : {A : Type 0} (xs ys : List A) (k : ℕ) (d : A) → get_or (xs ++ ys) (length xs + k) d ≡ get_or ys k d
get_d_behind [] ys k d = ap (λ (j : ℕ). get_or ys j d) (let e : 0 + k ≡ k = omega arith in e)
get_d_behind (x ∷ xs) ys k d = ap (λ (j : ℕ). get_or (x ∷ (xs ++ ys)) j d) (let e : suc (length xs) + k ≡ suc (length xs + k) = omega arith in e) ∙ get_d_behind xs ys k d

pub place_at : (cs : List (List ℤ)) (rest : List ℤ) (i k : ℕ) → i < length cs → k < length (kept_of (nth cs i)) → get_or (literal_places cs ++ rest) (before cs i + k) (pos 0) ≡ get_or (kept_of (nth cs i)) k (pos 0)
unfolding literal_places before
place_at [] rest i k h l = absurd (omega arith)
place_at (c ∷ cs) rest zero k h l =
    ap (λ (ls : List ℤ). get_or ls (0 + k) (pos 0)) (append_assoc (kept_of c) (literal_places cs) rest)
    ∙ ap (λ (j : ℕ). get_or (kept_of c ++ (literal_places cs ++ rest)) j (pos 0)) (let e : 0 + k ≡ k = omega arith in e)
    ∙ get_d_front (kept_of c) (literal_places cs ++ rest) k (pos 0) l
place_at (c ∷ cs) rest (suc i) k h l =
    ap (λ (ls : List ℤ). get_or ls (length (kept_of c) + before cs i + k) (pos 0)) (append_assoc (kept_of c) (literal_places cs) rest)
    ∙ ap (λ (j : ℕ). get_or (kept_of c ++ (literal_places cs ++ rest)) j (pos 0)) (let e : length (kept_of c) + before cs i + k ≡ length (kept_of c) + (before cs i + k) = omega arith in e)
    ∙ get_d_behind (kept_of c) (literal_places cs ++ rest) (before cs i + k) (pos 0)
    ∙ place_at cs rest i k (omega arith) l

-- a clause's places end before those of a later one, and all before the end
pub before_rises : (cs : List (List ℤ)) (i j : ℕ) → i < j → j ≤ length cs → before cs i + length (kept_of (nth cs i)) ≤ before cs j
unfolding before
before_rises [] i j lt le = absurd (omega arith)
before_rises (c ∷ cs) zero zero lt le = absurd (omega arith)
before_rises (c ∷ cs) zero (suc j) lt le = omega arith
before_rises (c ∷ cs) (suc i) zero lt le = absurd (omega arith)
before_rises (c ∷ cs) (suc i) (suc j) lt le = omega (arith, before_rises cs i j (omega arith) (omega arith))

pub before_all : (cs : List (List ℤ)) → before cs (length cs) ≡ length (literal_places cs)
unfolding before literal_places
before_all [] = refl
before_all (c ∷ cs) = ap (λ (k : ℕ). length (kept_of c) + k) (before_all cs) ∙ sym (length-append (kept_of c) (literal_places cs))

-- ---- variables

pub own_at : (v u w : ℕ) (rest : List ℤ) → w < v → (get_or (variable_records u v ++ rest) (2 * w) (pos 0) ≡ pos (u + w)) × (get_or (variable_records u v ++ rest) (2 * w + 1) (pos 0) ≡ pos 0)
unfolding variable_records
own_at zero u w rest h = absurd (omega arith)
own_at (suc v) u zero rest h = (ap pos (sym (add-zero u)), refl)
own_at (suc v) u (suc w) rest h =
    let r = own_at v (suc u) w rest (omega arith) in
    let all : List ℤ = pos u ∷ pos 0 ∷ (variable_records (suc u) v ++ rest) in (
      ap (λ (k : ℕ). get_or all k (pos 0)) (let e : 2 * suc w ≡ suc (suc (2 * w)) = omega arith in e) ∙ r.0 ∙ ap pos (let e : suc u + w ≡ u + suc w = omega arith in e),
      ap (λ (k : ℕ). get_or all k (pos 0)) (let e : 2 * suc w + 1 ≡ suc (suc (2 * w + 1)) = omega arith in e) ∙ r.1,
    )
