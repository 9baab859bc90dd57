-- One chain more is written, from the ends as they are read.
use Rattle.std.proofs.Common.{arith, rules, ◌≡◌, ℕ, ◌+◌, ◌*◌, ◌<◌, ◌^◌, refl, sym, ap, subst, ◌∙◌, List, length, get_or, ℤ, pos, w32, to_z, of_z}
use Rattle.literal.proofs.Signed.{back}
use Rattle.printing.specs.Printing.{clause_text}
use Rattle.printing.proofs.Storing.{wrote_as, stored_anew}
use Rattle.write.proofs.Gathering.{putting_room, putting_step, putting_end}
use Rattle.chains.specs.declared.Ends.{Ends}
use Rattle.chains.specs.Chains.{ends, chain_of, ends_at}
use Rattle.chains.specs.Climbing.{Climbable}
use Rattle.chains.proofs.Rowed.{end_small}
use Rattle.chains.proofs.Listing.{one_line, chains_short}
use Rattle.chains.proofs.put_chains.Goals as goal

-- the ends as they are read
read-ends : {links : List ℤ} (xs : List ℤ) (k : ℕ) → Climbable links (ends_at xs k) → ends (to_z w32 (of_z w32 (get_or xs (2 * k) (pos 0)))) (to_z w32 (of_z w32 (get_or xs (2 * k + 1) (pos 0)))) ≡ ends_at xs k
read-ends xs k C = λ i. ends (back (end_small C).0 i) (back (end_small C).1 i)

pub put_chain-requires : goal.put_chain-requires
put_chain-requires c =
    let k = c.loop-k.k in
    let h = c.loop-k-test.true in
    let C = c.requires.each k h in
    subst (λ (e : Ends). Climbable c.args.links.now e × (c.loop-k.writer.at + length (clause_text (chain_of c.args.links.now e)) < 2 ^ 63)) (sym (read-ends c.args.ends.now k C))
    (C, omega (arith, ap length (one_line (chain_of c.args.links.now (ends_at c.args.ends.now k))), putting_room c.loop-k.invariant h refl (omega (arith, chains_short c.requires))))

pub loop-k-preserved : goal.loop-k-preserved
loop-k-preserved c =
    let k = c.loop-k.k in
    let h = c.loop-k-test.true in
    let read = read-ends c.args.ends.now k (c.requires.each k h) in
    let line = sym (ap (λ (e : Ends). clause_text (chain_of c.args.links.now e)) read ∙ sym (one_line (chain_of c.args.links.now (ends_at c.args.ends.now k)))) in
    putting_step c.loop-k.invariant h refl refl (wrote_as c.put_chain.ensures line)

pub returns : goal.returns
returns c =
    let wrote = putting_end c.loop-k.invariant c.loop-k-test.false in
    let same = wrote.same_reference in
    stored_anew c.new-writer.ensures.front c.new-writer.ensures.output wrote (search rules)
