-- THE THEOREM on the C call's results: it returns a length of at most 135,184, −2, −3 or −10, and the last only for an output of fewer bytes than 135,184. Assumes nothing.
use Prim.Native.Nat.{ℕ, ◌≤◌}
use native.Mathlib.Omega.{arith}
use mathlib.Core.Path.{◌≡◌, refl, sym, subst}
use mathlib.Core.Bool.{Bool, true, false}
use mathlib.Core.List.{List, ◌++◌}
use lib.ListN.{length, drop}
use lib.Dec.{leb}
use lib.IntN.{ℤ, negsuc}
use borrow.Author.Tests.{leb-true, leb-false}
use Rattle.state.specs.declared.Refusal.{Refusal}
use Rattle.state.specs.declared.Refusal.TheVariants.{Short}
use Rattle.state.specs.declared.Answer.TheVariants as answer
use Rattle.tables.specs.Tables.{Tables}
use Rattle.tables.specs.Long.{Long}
use Rattle.tables.specs.Calls.{After}
use Rattle.dimacs.specs.Text.{judge_text}
use Rattle.write.specs.Write.{AfterWrite, after_write, write_text, write_into}
use Rattle.simplify.specs.Texts.{empty_tables, simplify_in, simplify_text, result_of}
use Rattle.equivalence.specs.Returns.{longest, Returns, wrote, short}
use Rattle.equivalence.specs.Returns as returns
use Rattle.equivalence.proofs.Ending.{end_from, refused_text, end_shape, accepted_text}
use Rattle.equivalence.proofs.Texts.{empty_long}
use Rattle.equivalence.proofs.Refusing.{OfText, grammar, limit, refused_of_text}
use Rattle.equivalence.proofs.Lengths.{written_length}
use Rattle.std.specs.Prelude.{Result, Ok, Err}
use Rattle.dimacs.specs.declared.Header.{Header}

-- a text that is refused
refusal_returns : (r : Refusal) (out : List ℕ) → OfText r → Returns (length out) (result_of (after_write (Err r) out).reply)
refusal_returns r out (grammar at) = returns.grammar
refusal_returns r out (limit at) = returns.limit

-- a text that is written, if the output has room
into_returns : (text out : List ℕ) → length text ≤ longest → Returns (length out) (result_of (write_into text out).reply)
into_returns text out h = go (leb (length text) (length out)) refl
  where
    by : Bool → AfterWrite
    by b = elim b [ true ↦ after_write (Ok (answer.Written (length text))) (text ++ drop (length text) out) | false ↦ after_write (Err (Short (length text))) out ]

    go : (b : Bool) → leb (length text) (length out) ≡ b → Returns (length out) (result_of (by b).reply)
    go true e = wrote (length text) (leb-true (length text) (length out) e) h
    go false e = short (omega (arith, leb-false (length text) (length out) e))

in_returns : (t : Tables) → Long t → (text : List ℕ) (count : ℕ) (out : List ℕ) → Returns (length out) (result_of (simplify_in t text count out).reply)
in_returns t L text count out = go (judge_text text) refl
  where
    Answer : AfterWrite → Type 0
    Answer a = Returns (length out) (result_of a.reply)

    go : (x : Result Header Refusal) → judge_text text ≡ x → Answer (simplify_in t text count out)
    go (Err r) e = subst Answer (sym (refused_text t L text count r e out)) (refusal_returns r out (refused_of_text text r e))
    go (Ok h) e =
        let a : After = end_from t text count in
        subst Answer (sym (accepted_text t L text count h.v h.n h.body e out)) (into_returns (write_text a.tables a.state) out (written_length a.tables a.state (end_shape t L text count h.v h.n h.body e)))

pub answers : (text : List ℕ) (count : ℕ) (out : List ℕ) → Returns (length out) (result_of (simplify_text text count out).reply)
unfolding simplify_text
answers text count out = in_returns empty_tables empty_long text count out

-- an output of 135,184 bytes is never too short
pub never_short : (text : List ℕ) (count : ℕ) (out : List ℕ) → longest ≤ length out → result_of (simplify_text text count out).reply ≡ negsuc 9 → ⊥
never_short text count out h = go (result_of (simplify_text text count out).reply) (answers text count out)
  where
    go : (z : ℤ) → Returns (length out) z → z ≡ negsuc 9 → ⊥
    go z (wrote k a b) e = let z : ◌≡◌ {A = ℕ} 0 1 = cc in omega arith
    go z returns.grammar e = let z : ◌≡◌ {A = ℕ} 0 1 = cc in omega arith
    go z returns.limit e = let z : ◌≡◌ {A = ℕ} 0 1 = cc in omega arith
    go z (short l) e = omega arith
