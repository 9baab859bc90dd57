-- Worked examples, by computation. Under the stamps of document 01's sample, 1 → 2 → 3 and −3 → −2 → −1. Assumes nothing.
use Prim.Native.Nat.{ℕ}
use mathlib.Core.Path.{◌≡◌, refl}
use mathlib.Core.List.{List, [], ◌∷◌}
use lib.IntN.{ℤ, pos, neg_ℤ}
use Rattle.walk.specs.Walk.{Stamps}
use Rattle.stamp_columns.specs.Columns.{columns}
use Rattle.state.specs.declared.Verdict.TheVariants.{Nothing, Drop, Shorten}
use Rattle.chains.specs.Chains.{ends, climb, chain_of, chains_of}
use Rattle.base.specs.Lists.{any, filter, evens, odds}
use Rattle.literal.specs.Literals.{twin}
use Rattle.hidden.specs.Hidden.{holds, insert, by_discovery, scan_at, scan, figure6, transitive, hidden_pair, hidden_tautology, unhidden, shorten}
use Rattle.sweep_visits.specs.Clause.{sweep_clause}
use Rattle.explain.specs.Reasons.{holds_other, long_ends, drop_ends, literal_ends, left_out, reasons, reasons_of}

abbrev times : List ℕ
times = 1 ∷ 6 ∷ 9 ∷ 10 ∷ 2 ∷ 5 ∷ 8 ∷ 11 ∷ 3 ∷ 4 ∷ 7 ∷ 12 ∷ 13 ∷ 14 ∷ 15 ∷ 16 ∷ []

abbrev n : ℕ → ℤ
n k = neg_ℤ (pos k)

abbrev links : List ℤ
links = pos 1 ∷ pos 1 ∷ n 2 ∷ n 3 ∷ pos 1 ∷ pos 1 ∷ n 3 ∷ n 3 ∷ pos 2 ∷ pos 1 ∷ n 3 ∷ n 3 ∷ pos 4 ∷ pos 4 ∷ n 4 ∷ n 4 ∷ []

abbrev σ : Stamps
σ = columns times links

-- 1 goes by the first rule; its chain is 1 2 3
sample : reasons_of σ (pos 1 ∷ pos 3 ∷ pos 4 ∷ []) ≡ reasons Shorten 1 (ends (pos 1) (pos 3) ∷ [])
unfolding evens odds sweep_clause hidden_tautology hidden_pair transitive figure6 by_discovery insert scan scan_at shorten unhidden holds any filter twin holds_other long_ends drop_ends literal_ends left_out
sample = refl

sample_chain : chains_of links (ends (pos 1) (pos 3) ∷ []) ≡ (pos 1 ∷ pos 2 ∷ pos 3 ∷ []) ∷ []
unfolding climb chain_of
sample_chain = refl

-- a pair that a chain of others implies is dropped, one that is the chain's own step is not
pair : reasons_of σ (n 1 ∷ pos 3 ∷ []) ≡ reasons Drop 0 (ends (pos 1) (pos 3) ∷ [])
unfolding evens odds sweep_clause hidden_tautology hidden_pair transitive figure6 by_discovery insert scan scan_at shorten unhidden holds any filter twin holds_other long_ends drop_ends literal_ends left_out
pair = refl

own : reasons_of σ (n 1 ∷ pos 2 ∷ []) ≡ reasons Nothing 0 []
unfolding evens odds sweep_clause hidden_tautology hidden_pair transitive figure6 by_discovery insert scan scan_at shorten unhidden holds any filter twin holds_other long_ends drop_ends literal_ends left_out
own = refl

-- three literals: the first whose complement holds one, and the first that it holds
long : reasons_of σ (pos 4 ∷ pos 3 ∷ n 1 ∷ n 2 ∷ []) ≡ reasons Drop 0 (ends (n 3) (n 1) ∷ [])
unfolding evens odds sweep_clause hidden_tautology hidden_pair transitive figure6 by_discovery insert scan scan_at shorten unhidden holds any filter twin holds_other long_ends drop_ends literal_ends left_out
long = refl

-- a unit, and a clause of which nothing is taken out
alone : reasons_of σ (pos 1 ∷ []) ≡ reasons Nothing 0 []
unfolding evens odds sweep_clause hidden_tautology hidden_pair transitive figure6 by_discovery insert scan scan_at shorten unhidden holds any filter twin holds_other long_ends drop_ends literal_ends left_out
alone = refl

stays : reasons_of σ (pos 4 ∷ pos 1 ∷ []) ≡ reasons Nothing 0 []
unfolding evens odds sweep_clause hidden_tautology hidden_pair transitive figure6 by_discovery insert scan scan_at shorten unhidden holds any filter twin holds_other long_ends drop_ends literal_ends left_out
stays = refl
