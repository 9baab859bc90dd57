-- `explain::find_out` meets its contract. Assumes nothing.
use Prim.Native.Nat.{◌≤◌}
use native.Mathlib.Omega.{arith}
use mathlib.Core.Path.{◌≡◌, sym, ap, subst, ◌∙◌}
use mathlib.Core.List.{List, [], ◌++◌}
use lib.ListN.{length, take, drop, replicate, length-map}
use lib.Seq.{take-append-le}
use lib.IntN.{ℤ, pos}
use Rattle.base.proofs.Lists.{front_filled}
use Rattle.literal.specs.Literals.{slot_of}
use Rattle.stamp_columns.specs.Columns.{columns}
use Rattle.hidden.specs.Hidden.{holds, unhidden}
use Rattle.clause_slots.specs.Stamped.{Lits}
use Rattle.explain.specs.Reasons.{ends_in, left_out, taken_out}
use Rattle.explain.specs.Asking.{Says}
use Rattle.explain.proofs.Leaving.{left_out_length, nothing_out}
use Rattle.explain.proofs.Finding.{unhidden_lits, taken_shown, front_fits, front_length}
use borrow.Author.Rules.{rules}
use Rattle.explain.proofs.find_out.Statement.{statement}
use Rattle.explain.proofs.find_out.Tie as tie

-- the room for the rest
room : (s : tie.Start) → length (take {A = ℤ} (length s.args.part.now) (replicate 1024 (pos 0))) ≡ length s.args.part.now
room s = front_filled {A = ℤ} (length s.args.part.now) 1024 (pos 0) s.requires.1

-- what is behind it
abbrev behind : tie.Start → List ℤ
behind s = drop (length s.args.part.now) (replicate 1024 (pos 0))

-- the rest stands in front
few : (c : tie.After-keep_first-m) → c.keep_first-m.result ≤ length c.keep_first-m.new.rest
few c = omega (arith, c.keep_first-m.ensures.0, c.keep_first-m.auto.rest, room c.before.before.before.before)

rest-is : (c : tie.After-keep_first-m) (links : List ℤ) → take c.keep_first-m.result (c.keep_first-m.new.rest ++ behind c.before.before.before.before) ≡ unhidden slot_of (holds (columns c.args.times.now links)) c.args.part.now
rest-is c links = let c = c in take-append-le c.keep_first-m.result c.keep_first-m.new.rest (behind c.before.before.before.before) (few c) ∙ c.keep_first-m.ensures.1 links

nothing-requires : tie.Need-nothing-requires
nothing-requires c κs = search rules

returns : tie.Need-returns-then-left-n
returns c =
    λ links.
    subst (Says c.nothing.result c.args.ends.now) (sym (ap (taken_out (columns c.args.times.now links) c.args.part.now) (nothing_out c.requires.3 c.if-left-n.true))) (c.nothing.ensures c.args.ends.now)

array-borrow-prefix-rest : tie.Need-slice_bounds-rest-end
array-borrow-prefix-rest c = search rules

slice-aggregate-keep-first : tie.Need-slice_bounds-keep_first-end
slice-aggregate-keep-first c = sym (room c.before.before.before)

keep-first-requires : tie.Need-keep_first-m-requires
keep-first-requires c κs = (c.requires.0, room c.before.before.before)

array-share-prefix-rest : tie.Need-slice_bounds-rest-end-2
array-share-prefix-rest c = front_fits c.keep_first-m.result c.keep_first-m.new.rest (behind c.before.before.before.before.before) (few c.before)

slice-aggregate-gather-ends : tie.Need-slice_bounds-gather_ends-end
slice-aggregate-gather-ends c = front_length c.keep_first-m.result c.keep_first-m.new.rest (behind c.before.before.before.before.before.before) (few c.before.before)

gather-ends-requires : tie.Need-gather_ends-chains-requires
gather-ends-requires c κs =
    (c.requires.0, record { long = c.requires.0.long; lits = subst Lits (sym (rest-is c.before.before.before [])) (unhidden_lits (columns c.args.times.now []) c.requires.0.lits) }, c.requires.1, c.requires.2)

cast-t18 : tie.Need-overflow_cast-result
cast-t18 c =
    omega (
      arith,
      (c.gather_ends-chains.ensures []).number,
      length-map (left_out c.args.part.now c.args.left.now) (ends_in (columns c.args.times.now []) c.args.part.now (take c.keep_first-m.result (c.keep_first-m.new.rest ++ behind c.before.before.before.before.before.before.before.before.before))),
      left_out_length c.requires.3,
      c.requires.1,
    )

same_length : tie.Need-shape_of-ends
same_length c = search rules

returns-2 : tie.Need-returns
returns-2 c =
    let g = c.gather_ends-chains in
    λ links.
    taken_shown (columns c.args.times.now links) c.args.part.now c.args.left.now (take c.keep_first-m.result (c.keep_first-m.new.rest ++ behind c.before.before.before.before.before.before.before.before.before)) g.new.ends g.result c.requires.3 c.if-left-n.false (rest-is c.before.before.before.before.before links) (g.ensures links)

pub find_out_spec : {M : Type 1} → statement M
find_out_spec =
    tie.close
    (tie.spec
    nothing-requires
    returns
    array-borrow-prefix-rest
    slice-aggregate-keep-first
    keep-first-requires
    array-share-prefix-rest
    slice-aggregate-gather-ends
    gather-ends-requires
    cast-t18
    same_length
    returns-2)
