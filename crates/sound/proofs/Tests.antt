-- The hypotheses of the theorems as tests, so that an example meets them by computation. Assumes nothing.
use Prim.Native.Nat.{ℕ, ◌*◌, ◌/◌}
use mathlib.Core.Path.{◌≡◌, sym, ap}
use mathlib.Core.Bool.{Bool, true, not, ◌&&◌}
use mathlib.Core.Logic.{⊎_elim}
use mathlib.Core.List.Memᴰ
use mathlib.Core.List.{List, [], ◌∷◌, Memᴰ}
use lib.Dec.{eqb, ltb}
use borrow.Author.Tests.{ltb-true, eqb-true, eq-eqb, not-true}
use Rattle.base.specs.Lists.{any, any_below}
use Rattle.base.proofs.Booleans.{and_left, and_right, bool_or, clash}
use Rattle.base.proofs.Lists.{any_in, any_out}
use Rattle.base.proofs.Searches.{any_below_in}
use Rattle.implications.specs.Clauses.{Once, empty, more}
use Rattle.walk.specs.Walk.{Lists}
use Rattle.sound.specs.Formula.{Clause, standing, literals_in}
use Rattle.sound.specs.Kept.{Shaped}

-- no variable twice
unfoldable pub once? : List ℕ → Bool
once? [] = true
once? (x ∷ xs) = not (any (λ y. eqb (y / 2) (x / 2)) xs) && once? xs

-- literals in range, and no variable twice
unfoldable pub clause? : ℕ → List ℕ → Bool
clause? vars C = not (any (λ l. not (ltb l (2 * vars))) C) && once? C

unfoldable pub shaped? : ℕ → List Clause → Bool
shaped? vars f = not (any (λ c. not (clause? vars (literals_in c))) f)

-- a list of all slots below size
unfoldable pub lists? : ℕ → List ℕ → Bool
lists? size order = not (any (λ q. not (ltb q size)) order) && not (any_below size (λ q. not (any (λ x. eqb x q) order)))

-- what no element fails, each passes
none_fails : {A : Type 0} (p : A → Bool) (xs : List A) → not (any (λ x. not (p x)) xs) ≡ true → {x : A} → Memᴰ x xs → p x ≡ true
none_fails p xs h {x} m = ⊎_elim (λ t. t) (λ f. clash (any_in (λ y. not (p y)) xs m (ap not f)) (not-true _ h)) (bool_or (p x))

once_of : (C : List ℕ) → once? C ≡ true → Once C
unfolding once?
once_of [] h = empty
once_of (x ∷ xs) h =
    more
    (λ y m e. clash (any_in (λ z. eqb (z / 2) (x / 2)) xs m (eq-eqb (y / 2) (x / 2) e)) (not-true _ (and_left _ _ h)))
    (once_of xs (and_right (not (any (λ y. eqb (y / 2) (x / 2)) xs)) _ h))

pub shaped_of : (vars : ℕ) (f : List Clause) → shaped? vars f ≡ true → Shaped vars f
unfolding shaped? clause? literals_in
shaped_of vars f h =
    record {
      below = λ C m l k. ltb-true l (2 * vars) (none_fails (λ x. ltb x (2 * vars)) C (and_left _ _ (passes C m)) k);
      once = λ C m. once_of C (and_right (not (any (λ l. not (ltb l (2 * vars))) C)) _ (passes C m));
    }
  where
    passes : (C : List ℕ) → Memᴰ (standing C) f → clause? vars C ≡ true
    passes C m = none_fails (λ c. clause? vars (literals_in c)) f h m

pub lists_of : (size : ℕ) (order : List ℕ) → lists? size order ≡ true → Lists size order
unfolding lists?
lists_of size order h =
    record {
      below = λ q m. ltb-true q size (none_fails (λ x. ltb x size) order (and_left _ _ h) m);
      all = λ q lt.
          let none = not-true _ (and_right (not (any (λ x. not (ltb x size)) order)) _ h) in
          ⊎_elim
          (λ t. let r = any_out (λ x. eqb x q) order t in Memᴰ.cast (sym (eqb-true r.0 q r.2)) r.1)
          (λ f. clash (any_below_in size (λ x. not (any (λ y. eqb y x) order)) q lt (ap not f)) none)
          (bool_or (any (λ x. eqb x q) order));
    }
