-- The chains, measured and written. Assumes nothing.
use Rattle.std.specs.Prelude.{Ok, Err}
use Prim.Native.Nat.{ℕ, ◌≤◌, ◌<◌}
use native.Mathlib.Omega.{arith}
use mathlib.Core.Path.{◌≡◌, ap, subst, ◌∙◌}
use mathlib.Core.List.{List, [], ◌++◌}
use lib.ListN.{length}
use lib.IntN.{ℤ}
use Rattle.stamp_columns.specs.Columns.{columns}
use Rattle.state.specs.declared.Answer.TheVariants.{Explained}
use Rattle.state.specs.declared.Refusal.TheVariants.{Short}
use Rattle.printing.specs.Printing.{clauses_text}
use Rattle.printing.specs.Stored.{Stored}
use Rattle.write.specs.Gathered.{gathered}
use Rattle.write.specs.Write.{after_write}
use Rattle.write.proofs.Text.{too_short, fits_out}
use Rattle.chains.specs.Chains.{chain_at}
use Rattle.chains.specs.Climbing.{Chained}
use Rattle.chains.proofs.Listing.{listed_chained, listed_chains}
use Rattle.explain.specs.Reasons.{Reasons, reasons_of}
use Rattle.explain.specs.Explain.{chains_text, explain_into}
use Rattle.explain.specs.Asking.{Clause, Says}
use Rattle.explain.specs.declared.Found.{Found}
use Rattle.explain.proofs.Named.{shown_climbable, shown_few}

module _ {f : Found} {xs : List ℤ} (why : Reasons) (S : Says f xs why) (links : List ℤ) where
  -- the lines that the code stores
  lines : clauses_text (gathered (chain_at links xs) f.chains 0) ≡ chains_text links why
  lines = ap clauses_text (listed_chains links xs why.shown S.shown.number S.shown.pairs)

  stored : {at r : ℕ} {o o₁ : List ℕ} → Stored (clauses_text (gathered (chain_at links xs) f.chains 0)) at o o₁ r → Stored (chains_text links why) at o o₁ r
  stored {at} {r} {o} {o₁} s = subst (λ (t : List ℕ). Stored t at o o₁ r) lines s

  pub chains_short_of : {e : List ℕ} {r : ℕ} (out : List ℕ) → Stored (clauses_text (gathered (chain_at links xs) f.chains 0)) 0 [] e r → length (e ++ out) < r → after_write (Err (Short r)) (e ++ out) ≡ explain_into links why out
  chains_short_of out s h = too_short (Explained why.verdict why.out) out (stored s) h

  pub chains_written : {e o : List ℕ} {n r : ℕ} (out : List ℕ) → Stored (clauses_text (gathered (chain_at links xs) f.chains 0)) 0 [] e n → n ≤ length (e ++ out) → Stored (clauses_text (gathered (chain_at links xs) f.chains 0)) 0 (e ++ out) o r
      → after_write (Ok (Explained f.verdict f.out r)) o ≡ explain_into links why out
  chains_written {e} {o} {n} {r} out s h t =
      (λ i. after_write (Ok (Explained (S.verdict i) (S.out i) r)) o) ∙ fits_out (Explained why.verdict why.out) out (stored s) h (stored t)

-- what was found of a clause can be climbed
pub found_chained : {times : List ℕ} {links C xs : List ℤ} {f : Found} → Clause times links C → Says f xs (reasons_of (columns times links) C) → length xs ≡ 2048 → Chained links xs f.chains
found_chained {times} {links} {C} {xs} {f} K S size =
    let few = shown_few K in
    let n = S.shown.number in
    listed_chained (reasons_of (columns times links) C).shown xs n S.shown.pairs (omega (arith, few, n)) (omega (arith, few, n, size)) (shown_climbable K)
