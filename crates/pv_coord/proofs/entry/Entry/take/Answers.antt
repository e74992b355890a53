use Rattle.std.proofs.Common.{◌≡◌, ◌+◌, Bool, false, true, List, ◌++◌, ◌∷◌, length, take, drop, sym, ap, ◌∙◌, subst, arith}
use Rattle.std.specs.Prelude.{is_ok, not, ◌==◌, if◌then◌else◌, vec_len}
use Rattle.std.specs.List.{filter, list_any, insert}
use Rattle.pv_coord.proofs.RoomLemmas.{fewer-grants}
use Rattle.pv_coord.specs.EntryView.{work_in}
use Rattle.pv_coord.specs.Work.{Work, sites_of, is_unawaited}
use Rattle.pv_protocol.specs.Coordinate.{with_taken}
use Rattle.pv_protocol.specs.State.{Taken}
use Rattle.pv_coord.proofs.entry.Entry.take.Goals as goal

pub unwrap-requires : goal.unwrap-requires
unwrap-requires c =
    let less = fewer-grants (work_in c.self.inside) c.args.taken
    (subst (λ (work : Work). is_unawaited work c.args.taken.site ≡ false) (sym c.self.view_is) c.requires.awaited) in
    c.insert.ensures.succeeds (omega (arith, c.self.invariant.grants, less))

pub invariant_of-self : goal.invariant_of-self
invariant_of-self c =
    let old = work_in c.self.inside in
    let list = c.self.inside.taken.items in
    let less = fewer-grants old c.args.taken
    (subst (λ (work : Work). is_unawaited work c.args.taken.site ≡ false) (sym c.self.view_is) c.requires.awaited) in
    let ok : is_ok c.insert.result ≡ true = ap is_ok c.unwrap.ensures in
    let grants : c.insert.new.self.items ≡ with_taken c.args.taken list =
    c.insert.ensures.items
    ∙ ap (λ (b : Bool). if b then insert list c.place_of-place.result c.args.taken else list) ok
    ∙ sym (subst (λ (some : List Taken). with_taken c.args.taken some ≡ take c.place_of-place.result some ++ c.args.taken ∷ drop c.place_of-place.result some)
    c.deref.ensures.value (c.place_of-place.ensures.place c.args.taken (ap (λ (taken : Taken). taken.site) (sym c.taken.view_is)))) in
    let same = ap (λ (some : List Taken). length (filter (λ site. not (list_any (λ (t : Taken). t.site == site) some)) (sites_of old))) grants in
    let long = c.insert.ensures.len ∙ ap (λ (b : Bool). if b then vec_len c.self.inside.taken + 1 else vec_len c.self.inside.taken) ok in
    record { grants = omega (arith, c.self.invariant.grants, less, same, long, c.insert.ensures.capacity); votes = c.self.invariant.votes }

pub invariant_of-self-2 : goal.invariant_of-self-2
invariant_of-self-2 c =
    let old = work_in c.self.inside in
    let list = c.self.inside.taken.items in
    let less = fewer-grants old c.args.taken
    (subst (λ (work : Work). is_unawaited work c.args.taken.site ≡ false) (sym c.self.view_is) c.requires.awaited) in
    let ok : is_ok c.insert.result ≡ true = ap is_ok c.unwrap.ensures in
    let grants : c.insert.new.self.items ≡ with_taken c.args.taken list =
    c.insert.ensures.items
    ∙ ap (λ (b : Bool). if b then insert list c.place_of-place.result c.args.taken else list) ok
    ∙ sym (subst (λ (some : List Taken). with_taken c.args.taken some ≡ take c.place_of-place.result some ++ c.args.taken ∷ drop c.place_of-place.result some)
    c.deref.ensures.value (c.place_of-place.ensures.place c.args.taken (ap (λ (taken : Taken). taken.site) (sym c.taken.view_is)))) in
    let same = ap (λ (some : List Taken). length (filter (λ site. not (list_any (λ (t : Taken). t.site == site) some)) (sites_of old))) grants in
    let long = c.insert.ensures.len ∙ ap (λ (b : Bool). if b then vec_len c.self.inside.taken + 1 else vec_len c.self.inside.taken) ok in
    record { grants = omega (arith, c.self.invariant.grants, less, same, long, c.insert.ensures.capacity); votes = c.self.invariant.votes }
