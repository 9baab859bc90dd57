-- `shape::variable_ok`: a variable that passes the three tests has a right record. Assumes nothing.
use mir.Syntax.{w32}
use mir.Val.{of_z, to_z}
use Rattle.std.proofs.Common.{rules, sym, subst, ◌∙◌, ◌≡◌, ℕ, List, ◌≤◌, ℤ, pos, nat_abs}
use Rattle.base.specs.Decide.{says_yes}
use Rattle.literal.proofs.Signed.{in_range_lem, InRange}
use Rattle.tables.specs.Tables.{class_of, value_of}
use Rattle.shape.proofs.variable_ok.Goals as goal

pub returns-in-minus1-to-1 : goal.returns-in-minus1-to-1
returns-in-minus1-to-1 c =
    let vs : List ℤ = c.args.variables.now in
    let class : ℤ = class_of vs c.args.w in
    let read : to_z w32 (of_z w32 class) ≡ class = search rules in
    let range : InRange class c.args.w = in_range_lem class c.args.w (sym (rw read at c.in_range.ensures) ∙ c.if-not-in_range.false) in
    let var : c.var_of-u.result ≡ nat_abs class = rw read at c.var_of-u.ensures in
    let own : class_of vs c.var_of-u.result ≡ pos c.var_of-u.result = search rules in
    let three : nat_abs (value_of vs c.args.w) ≤ 1 = search rules in
    says_yes (record {
      class = record { above = range.above; within = range.within };
      own = subst (λ (x : ℕ). class_of vs x ≡ pos x) var own;
      value = three;
    })
