-- What clients of a live script want: the number of each thing, and the site of each item that is looked at.
use Rattle.std.proofs.Common.{◌≡◌, ⊎_elim, ℕ, ◌<◌, Bool, false, Option, Some, All, List, [], ◌∷◌, ◌++◌, length, get_or, inl, inr, refl, sym, ap, ◌∙◌, subst, arith}
use Rattle.std.proofs.lemmas.List.{get_or_append_left, get_or_push, length_push}
use Rattle.std.proofs.lemmas.List.Elements.{All-append, All-cons, All-head, All-nil, All-push, All-tail}
use mathlib.Core.Logic.{dite}
use native.Mathlib.Decide.{ℕ_discrete}
use Rattle.pv_base.specs.Catalog.{Item}
use Rattle.pv_model.specs.Events.{Event}
use Rattle.pv_model.specs.LineCauses.{Before, at_first, last_requests, last_site}
use Rattle.pv_model.specs.LineForms.{live}
use Rattle.pv_model.specs.LiveScript.{Client, LiveScript, Wish, number_of, to_ask, to_peek}
use Rattle.pv_model.specs.Schedule.{AreLines, none, declaration, event, Declares, IsLiveScript, new_client, with_one_more, with_wish}
use Rattle.pv_model.specs.Text.{TextLine}
use Rattle.pv_law_schedules.specs.Wishes.{AreNumbered, IsLookHome}

abbrev HasNumbers : Client → Type 0
HasNumbers client = AreNumbered client.requests

abbrev LooksHome : List Item → Client → Type 0
LooksHome items client = All (IsLookHome items client.site) client.requests

-- ## One more

-- A property of clients that one more wish of the last one keeps.
wish-keeps : (P : Client → Type 0) (clients : List Client) (wish : Wish) → All P clients
    → ((client : Client) → last_requests clients ≡ length client.requests → last_site clients ≡ Some client.site → P client → P (with_one_more client wish))
    → All P (with_wish clients wish)
wish-keeps P [] wish all keeps = All-nil P
wish-keeps P (client ∷ []) wish all keeps = All-cons P (with_one_more client wish) [] (keeps client refl refl (All-head P client [] all)) (All-nil P)
wish-keeps P (client ∷ next ∷ clients) wish all keeps =
    All-cons P client (with_wish (next ∷ clients) wish) (All-head P client (next ∷ clients) all)
    (wish-keeps P (next ∷ clients) wish (All-tail P client (next ∷ clients) all) keeps)

one-numbered : (wishes : List Wish) (wish : Wish) → AreNumbered wishes → number_of wish ≡ length wishes → AreNumbered (wishes ++ wish ∷ [])
one-numbered wishes wish are is k any less =
    dite (ℕ_discrete k (length wishes))
    (λ last. subst (λ (w : Wish). number_of w ≡ k) (sym (get_or_push wishes wish any k (sym last))) (is ∙ sym last))
    (λ isnt. let within : k < length wishes = let long = length_push wishes wish in omega (arith, less, isnt, long) in
    subst (λ (w : Wish). number_of w ≡ k) (sym (get_or_append_left wishes (wish ∷ []) any k within)) (are k any within))

numbered-more : (clients : List Client) (wish : Wish) → number_of wish ≡ last_requests clients → All HasNumbers clients → All HasNumbers (with_wish clients wish)
numbered-more clients wish is all = wish-keeps HasNumbers clients wish all (λ client count site are. one-numbered client.requests wish are (is ∙ count))

home-more : (items : List Item) (clients : List Client) (wish : Wish) → ((site : ℕ) → last_site clients ≡ Some site → IsLookHome items site wish)
    → All (LooksHome items) clients → All (LooksHome items) (with_wish clients wish)
home-more items clients wish is all =
    wish-keeps (LooksHome items) clients wish all (λ client count site are. All-push (IsLookHome items client.site) client.requests wish are (is client.site site))

none-are : (P : Client → Type 0) (clients : List Client) → clients ≡ [] → All P clients
none-are P clients empty = subst (All P) (sym empty) (All-nil P)

-- ## All lines
-- So it is of all clients so far; and none is there before the script has begun.
record InPlace (before : Before) : Type 0 where
  numbers : All HasNumbers before.clients
  looks : All (LooksHome before.items) before.clients
  waits : before.begun ≡ false → before.clients ≡ []

module _ (before after : Before) (line : TextLine) (all : InPlace before) where
  declared-in-place : Declares before line after → InPlace after
  declared-in-place (inl d) = subst InPlace (sym d.same) (record { numbers = all.numbers; looks = all.looks; waits = all.waits })
  declared-in-place (inr (inl d)) = subst InPlace (sym d.same) (record { numbers = all.numbers; looks = all.looks; waits = all.waits })
  declared-in-place (inr (inr (inl d))) =
      subst InPlace (sym d.same) (record {
        numbers = all.numbers;
        looks = none-are (LooksHome (before.items ++ d.item ∷ [])) before.clients (all.waits d.early);
        waits = all.waits;
      })
  declared-in-place (inr (inr (inr (inl d)))) = subst InPlace (sym d.same) (record { numbers = all.numbers; looks = all.looks; waits = all.waits })
  declared-in-place (inr (inr (inr (inr (inl d))))) =
      let client = new_client d.site in
      subst InPlace (sym d.same) (record {
        numbers = All-push HasNumbers before.clients client all.numbers (λ k any less. absurd (omega (arith, less)));
        looks = All-push (LooksHome before.items) before.clients client all.looks (All-nil (IsLookHome before.items d.site));
        waits = λ quiet. absurd (let wrong : ⊥ = cc in wrong);
      })
  declared-in-place (inr (inr (inr (inr (inr (inl d)))))) =
      let wish = to_ask d.request in
      subst InPlace (sym d.same) (record {
        numbers = numbered-more before.clients wish d.number all.numbers;
        looks = home-more before.items before.clients wish (λ site last. tt) all.looks;
        waits = λ quiet. absurd (d.some (all.waits quiet));
      })
  declared-in-place (inr (inr (inr (inr (inr (inr d)))))) =
      let wish = to_peek (last_requests before.clients) d.item in
      subst InPlace (sym d.same) (record {
        numbers = numbered-more before.clients wish refl all.numbers;
        looks = home-more before.items before.clients wish (λ site last. d.here ∙ last) all.looks;
        waits = λ quiet. absurd (d.some (all.waits quiet));
      })

lines-in-place : {before last : Before} {lines : List TextLine} {events : List Event} → AreLines before lines events last → InPlace before → InPlace last
lines-in-place (none b) all = all
lines-in-place (declaration b after l line rest es declares are) all = lines-in-place are (declared-in-place b after line all declares)
lines-in-place (event b l line rest e es says are) all =
    lines-in-place are (record { numbers = all.numbers; looks = all.looks; waits = λ quiet. absurd (let wrong : ⊥ = cc in wrong) })

at-first-in-place : InPlace (at_first live)
at-first-in-place = record { numbers = All-nil HasNumbers; looks = All-nil (LooksHome []); waits = λ quiet. refl }

module _ (text : List ℕ) (script : LiveScript) (is : IsLiveScript text script) where
  pub wishes-numbered : All HasNumbers script.clients
  wishes-numbered = subst (λ (s : LiveScript). All HasNumbers s.clients) (sym is.is) (lines-in-place is.are at-first-in-place).numbers

  pub wishes-home : All (LooksHome script.catalog.items) script.clients
  wishes-home = subst (λ (s : LiveScript). All (LooksHome s.catalog.items) s.clients) (sym is.is) (lines-in-place is.are at-first-in-place).looks
