-- Document 01: "An assignment makes each of 1 to V true or false. .. an assignment satisfies it if each has a literal that is true under it." Assumes nothing: these are definitions.
use Rattle.std.specs.Prelude.{ℕ, ◌≡◌, Bool, true, false, not, ◌||◌, List, [], ◌∷◌, ℤ, nat_abs}
use Rattle.std.specs.Int.Signed.{non_neg}

-- what an assignment of the variables makes each of them
abbrev pub Assignment : Type 0
Assignment = ℕ → Bool

abbrev pub truth_by : Bool → Bool → Bool
truth_by true b = b
truth_by false b = not b

-- the truth of a literal
abbrev pub true_under : Assignment → ℤ → Bool
true_under τ l = truth_by (non_neg l) (τ (nat_abs l))

-- some literal of the clause is true
abbrev pub some_true : Assignment → List ℤ → Bool
some_true τ [] = false
some_true τ (l ∷ ls) = true_under τ l || some_true τ ls

-- an assignment satisfies the clauses
unfoldable pub Satisfies : Assignment → List (List ℤ) → Type 0
Satisfies τ [] = Unit {0}
Satisfies τ (c ∷ cs) = (some_true τ c ≡ true) × Satisfies τ cs
