-- The item goes to its place among the first, and nothing is lost.
use Rattle.std.proofs.Common.{get_or, ◌≡◌, ◌==◌, ◌||◌, ◌∙◌, ◌+◌, ◌≤◌, ◌<◌, ℕ, List, Result, length, take, drop, ap, ap₂, sym, subst, arith}
use Rattle.std.specs.Prelude.{if◌then◌else◌}
use Rattle.std.specs.Result.{is_ok}
use Rattle.std.specs.List.{AllPairs, insert, remove}
use Rattle.std.proofs.lemmas.List.{take-append-drop, get_or-drop, length-take-le, length-drop}
use Rattle.pv_base.specs.declared.catalog.ItemId.{ItemId}
use Rattle.pv_store.specs.StandingHere.{is_one_of, places_in, StandingHere}
use Rattle.pv_store.proofs.StandingLemmas.{IsBefore, moved-named, moved-within, any-insert, any-remove, is_one_of-again, is_one_of-among, among-first}
use Rattle.pv_store.proofs.standing.Standing.touch.Goals as goal

pub returns-in_default-clause-named : goal.returns-in_default-clause-named
returns-in_default-clause-named c = λ there.
    let named : c.args.self.now.named ≡ c.split_at.result.0.now =
    ap (λ (standing : StandingHere). standing.named) (sym c.self.view_is) ∙ ap (take c.self.inside.named) (sym c.deref.ensures.value) ∙ sym c.split_at.ensures.front in
    subst (λ (named : List ItemId). is_one_of there named ≡ (there == c.args.item.0 || is_one_of there named)) (sym named)
    (is_one_of-again c.split_at.result.0.now c.in_default.field-0 c.args.item there c.in_default.ensures.there.0 (c.in_default.ensures.there.1 c.args.item))

pub returns-in_default-found_at-clause-named : goal.returns-in_default-found_at-clause-named
returns-in_default-found_at-clause-named c = λ there.
    let others : c.split_at.result.1.now ≡ c.args.self.now.others =
    c.split_at.ensures.back ∙ ap (drop c.self.inside.named) c.deref.ensures.value ∙ ap (λ (standing : StandingHere). standing.others) c.self.view_is in
    is_one_of-among c.args.self.now.named c.args.item.0 there
    (among-first c.args.self.now.named c.args.self.now.others c.args.item.0 c.requires (ap (is_one_of c.args.item.0) (sym others) ∙ c.in_default-found_at.ensures))

module _ (c : goal.After-self-1) where
  abbrev n : ℕ
  n = c.self.inside.named

  abbrev items : List ItemId
  items = c.self.inside.items.items

  front : c.split_at.result.0.now ≡ take n items
  front = c.split_at.ensures.front ∙ ap (take n) c.deref.ensures.value

  back : c.split_at.result.1.now ≡ drop n items
  back = c.split_at.ensures.back ∙ ap (drop n) c.deref.ensures.value

  -- what is taken out is the item
  at : (d : ItemId) → get_or items (n + c.in-Some.beside) d ≡ c.args.item
  at d = sym (get_or-drop n items c.in-Some.beside d) ∙ ap (λ (others : List ItemId). get_or others c.in-Some.beside d) (sym back) ∙ c.in-Some.ensures.1 d

  written : c.insert.new.self.items ≡ insert (remove items (n + c.in-Some.beside)) c.in-Err.place c.args.item
  written =
      c.insert.ensures.items
      ∙ ap (λ (done : Result _ _). if is_ok done then insert c.remove-moved.new.self.items c.in-Err.place c.remove-moved.result else c.remove-moved.new.self.items) c.unwrap.ensures
      ∙ ap₂ (λ (all : List ItemId) (one : ItemId). insert all c.in-Err.place one) c.remove-moved.ensures.items (c.remove-moved.ensures.value ∙ at c.remove-moved.result)

  low : c.in-Err.place ≤ n
  low = let count = ap length front ∙ length-take-le n items c.self.invariant.within in omega (arith, count, c.in-Err.ensures.apart.0)

  below : n + c.in-Some.beside < length items
  below = let count = ap length back ∙ length-drop n items in omega (arith, count, c.in-Some.ensures.0, c.self.invariant.within)

  first : take (n + 1) c.insert.new.self.items ≡ insert (take n items) c.in-Err.place c.args.item
  first = ap (take (n + 1)) written ∙ moved-named items n c.self.invariant.within c.in-Err.place c.in-Some.beside c.args.item low

pub invariant_of-self : goal.invariant_of-self
invariant_of-self c = record {
  within = subst (λ (all : List ItemId). n c + 1 ≤ length all) (sym (written c)) (moved-within (items c) (n c) c.self.invariant.within c.in-Err.place c.in-Some.beside c.args.item (low c));
  ascending = subst (AllPairs IsBefore) (sym (first c ∙ ap (λ (named : List ItemId). insert named c.in-Err.place c.args.item) (sym (front c)))) c.in-Err.ensures.apart.1;
}

pub returns-clause-more : goal.returns-clause-more
returns-clause-more c = λ there is.
    let among = λ (other : ItemId). there == other.0 in
    ap (is_one_of there) (take-append-drop (n c + 1) c.insert.new.self.items)
    ∙ ap (is_one_of there) (written c)
    ∙ any-insert among (remove (items c) (n c + c.in-Some.beside)) c.in-Err.place c.args.item
    ∙ ap (λ (one : ItemId). there == one.0 || is_one_of there (remove (items c) (n c + c.in-Some.beside))) (sym (at c c.args.item))
    ∙ sym (any-remove among (items c) (n c + c.in-Some.beside) c.args.item (below c))
    ∙ ap (is_one_of there) (sym (take-append-drop (n c) (items c)))
    ∙ ap (λ (standing : StandingHere). is_one_of there (places_in standing)) c.self.view_is
    ∙ is

pub returns-clause-named : goal.returns-clause-named
returns-clause-named c = λ there.
    ap (is_one_of there) (first c)
    ∙ any-insert (λ (other : ItemId). there == other.0) (take (n c) (items c)) c.in-Err.place c.args.item
    ∙ ap (λ (standing : StandingHere). there == c.args.item.0 || is_one_of there standing.named) c.self.view_is
