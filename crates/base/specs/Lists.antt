-- Functions on lists that the definitions of every crate use. Each branches by `elim`, so that computing an example does only the work that is asked for.
-- Assumes nothing: these are definitions.
use Rattle.std.specs.Prelude.{ℕ, zero, suc, Bool, true, false, List, [], ◌∷◌, ◌++◌, take, drop, eqb}

-- some element passes the test
unfoldable pub any : {A : Type 0} → (A → Bool) → List A → Bool
any p [] = false
any p (x ∷ xs) = elim (p x) [ true ↦ true | false ↦ any p xs ]

-- those that pass the test, in order
unfoldable pub filter : {A : Type 0} → (A → Bool) → List A → List A
filter p [] = []
filter p (x ∷ xs) = elim (p x) [ true ↦ x ∷ filter p xs | false ↦ filter p xs ]

-- q is none of the elements
unfoldable pub absent : ℕ → List ℕ → Bool
absent q [] = true
absent q (x ∷ xs) = elim (eqb x q) [ true ↦ false | false ↦ absent q xs ]

-- the first number from k on that passes the test, among n
unfoldable pub first : (ℕ → Bool) → ℕ → ℕ → ℕ
first test zero k = k
first test (suc n) k = elim (test k) [ true ↦ k | false ↦ first test n (suc k) ]

-- some number below n passes the test
unfoldable pub any_below : ℕ → (ℕ → Bool) → Bool
any_below zero test = false
any_below (suc n) test = elim (test n) [ true ↦ true | false ↦ any_below n test ]

-- every number below n passes the test
unfoldable pub all_below : ℕ → (ℕ → Bool) → Bool
all_below zero test = true
all_below (suc n) test = elim (test n) [ true ↦ all_below n test | false ↦ false ]

-- the same elements in the same order, by a test of two elements
unfoldable pub same_list : {A : Type 0} → (A → A → Bool) → List A → List A → Bool
same_list eq [] [] = true
same_list eq [] (y ∷ ys) = false
same_list eq (x ∷ xs) [] = false
same_list eq (x ∷ xs) (y ∷ ys) = elim (eq x y) [ true ↦ same_list eq xs ys | false ↦ false ]

-- the numbers from k on, n of them
unfoldable pub numbers : ℕ → ℕ → List ℕ
numbers k zero = []
numbers k (suc n) = k ∷ numbers (suc k) n

-- turned left by r places
unfoldable pub turned : {A : Type 0} → ℕ → List A → List A
turned r l = drop r l ++ take r l

-- ---- records of two numbers in one list

-- the first numbers of the records
unfoldable pub evens : {A : Type 0} → List A → List A
evens [] = []
evens (x ∷ []) = x ∷ []
evens (x ∷ y ∷ l) = x ∷ evens l

-- the second numbers of the records
unfoldable pub odds : {A : Type 0} → List A → List A
odds [] = []
odds (x ∷ []) = []
odds (x ∷ y ∷ l) = y ∷ odds l

-- records made of two columns
unfoldable pub interleave : {A : Type 0} → List A → List A → List A
interleave [] ys = []
interleave (x ∷ xs) [] = []
interleave (x ∷ xs) (y ∷ ys) = x ∷ y ∷ interleave xs ys
