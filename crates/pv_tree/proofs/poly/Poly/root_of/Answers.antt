-- Cases that are those of a node are canonical.
use Rattle.std.proofs.Common.{◌≡◌, ◌∙◌, ◌≤◌, IfSome, List, [], ◌∷◌, length, refl, sym, subst, arith}
use Rattle.std.proofs.lemmas.Bool.{eqb-true}
use Rattle.pv_base.specs.declared.limits.TheConstants.{HELD_NAMES}
use Rattle.pv_tree.specs.Meanings.{cases_at, IsRead}
use Rattle.pv_tree.proofs.PolyLemmas.{listed-polyvalue}
use Rattle.pv_tree.proofs.ReadLemmas.{read-whole}
use Rattle.pv_tree.proofs.poly.Poly.root_of.Goals as goal

no-more : {X : Type 0} (xs : List X) → length xs ≡ 0 → xs ≡ []
no-more [] none = refl
no-more (x ∷ xs) none = absurd (omega (arith, none))

pub returns-clause-kept : goal.returns-clause-kept
returns-clause-kept g c =
    let read : IsRead c.new-way.result.items c.args.cases.now c.read.new.self c.in-Some.root c.in-Some.rest.now =
    subst (λ read. IfSome read (λ found. IsRead c.new-way.result.items c.args.cases.now c.read.new.self found.0 found.1.now)) c.in-Some.is c.in_ok-root.ensures.read in
    let end : c.in-Some.rest.now ≡ [] = no-more c.in-Some.rest.now (eqb-true (length c.in-Some.rest.now) 0 (sym c.is_empty.ensures ∙ c.if-not-is_empty.false)) in
    let cases = cases_at c.read.new.self c.in-Some.root in
    let short : length c.in_ok-txns.txns.items ≤ HELD_NAMES = omega (arith, c.len.ensures, c.in_ok-txns.txns.ok.0, c.if-len.false) in
    record {
      kept = read-whole c.new-way.result.items c.args.cases.now c.in-Some.rest.now c.read.new.self c.in-Some.root c.new-way.ensures.items end read;
      polyvalue = listed-polyvalue HELD_NAMES cases cases c.in_ok-txns.txns.items refl read.canonical c.in_ok-txns.ensures short;
    }
