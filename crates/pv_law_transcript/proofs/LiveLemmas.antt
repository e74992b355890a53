-- What a live script declares may be said by the lines of a schedule: line by line.
use Rattle.std.proofs.Common.{◌≡◌, ⊎_elim, ℕ, ◌≤◌, true, false, Option, Some, None, All, List, [], ◌∷◌, ◌++◌, append_assoc, append-nil, refl, sym, subst, arith}
use Rattle.std.proofs.lemmas.List.Elements.{All-append, All-cons, All-head, All-nil, All-tail}
use Rattle.pv_base.specs.declared.limits.TheConstants.{MAX_JOURNAL, MAX_SITES, MIN_JOURNAL}
use Rattle.pv_base.specs.Catalog.{Declared, Item}
use Rattle.pv_base.proofs.Basics.{Some_inj}
use Rattle.pv_model.specs.Events.{Event}
use Rattle.pv_model.specs.LineCauses.{Before, at_first, declared_by, last_requests, or_default}
use Rattle.pv_model.specs.LineForms.{live}
use Rattle.pv_model.specs.LiveScript.{Client, LiveScript, Wish, to_ask, to_peek}
use Rattle.pv_model.specs.Schedule.{AreLines, none, declaration, event, Declares, DeclaresClient, DeclaresItem, DeclaresJournal, DeclaresPeek, DeclaresPlan, DeclaresRequest, DeclaresSites, IsLiveScript, new_client, significant, with_event, with_one_more, with_wish}
use Rattle.pv_model.specs.Text.{TextLine}
use Rattle.pv_law_transcript.specs.Written.{AreNewItems, IsNewItem, IsWritten, IsWrittenWish}
use Rattle.pv_law_transcript.proofs.RequestLemmas.{request-text}

-- Lines of a schedule of this catalog may say each request of the client.
abbrev OfClient : Declared → Client → Type 0
OfClient catalog client = All (IsWrittenWish catalog) client.requests

abbrev IsFew : Option ℕ → Type 0
IsFew sites = (n : ℕ) → sites ≡ Some n → (1 ≤ n) × (n ≤ MAX_SITES)

abbrev IsLimit : Option ℕ → Type 0
IsLimit journal = (n : ℕ) → journal ≡ Some n → (MIN_JOURNAL ≤ n) × (n ≤ MAX_JOURNAL)

-- What was said so far may be said by lines of a schedule.
record Sound (before : Before) : Type 0 where
  few : IsFew before.sites
  range : IsLimit before.journal
  first : before.sites ≡ None → (before.items ≡ []) × (before.clients ≡ [])
  items : AreNewItems (or_default 0 before.sites) [] before.items
  waits : before.begun ≡ false → before.clients ≡ []
  requests : All (OfClient (declared_by before)) before.clients

-- ## One more
one-new : (sites : ℕ) (earlier items : List Item) (item : Item) → AreNewItems sites earlier items → IsNewItem sites (earlier ++ items) item → AreNewItems sites earlier (items ++ item ∷ [])
one-new sites earlier [] item are is = (subst (λ (all : List Item). IsNewItem sites all item) (append-nil earlier) is, tt)
one-new sites earlier (first ∷ items) item are is =
    (are.0, one-new sites (earlier ++ first ∷ []) items item are.1 (subst (λ (all : List Item). IsNewItem sites all item) (sym (append_assoc earlier (first ∷ []) items)) is))

none-asks : (catalog : Declared) (clients : List Client) → clients ≡ [] → All (OfClient catalog) clients
none-asks catalog clients bare = subst (All (OfClient catalog)) (sym bare) (All-nil (OfClient catalog))

one-asks : (catalog : Declared) (clients : List Client) (wish : Wish) → All (OfClient catalog) clients → IsWrittenWish catalog wish
    → All (OfClient catalog) (with_wish clients wish)
one-asks catalog [] wish all is = All-nil (OfClient catalog)
one-asks catalog (client ∷ []) wish all is =
    All-cons (OfClient catalog) (with_one_more client wish) []
    (All-append (IsWrittenWish catalog) client.requests (wish ∷ []) (All-head (OfClient catalog) client [] all)
    (All-cons (IsWrittenWish catalog) wish [] is (All-nil (IsWrittenWish catalog))))
    (All-nil (OfClient catalog))
one-asks catalog (client ∷ next ∷ clients) wish all is =
    All-cons (OfClient catalog) client (with_wish (next ∷ clients) wish) (All-head (OfClient catalog) client (next ∷ clients) all)
    (one-asks catalog (next ∷ clients) wish (All-tail (OfClient catalog) client (next ∷ clients) all) is)

-- ## What a line declares
unsaid : {A : Type 0} (said : Option ℕ) (sites : ℕ) → said ≡ Some sites → said ≡ None → A
unsaid said sites is unknown = absurd (let wrong : ⊥ = cc in wrong)

module _ (before after : Before) (line : TextLine) (sound : Sound before) where
  sites-sound : DeclaresSites before line after → Sound after
  sites-sound d =
      let bare = sound.first d.first in
      let next : Sound (record before { sites = Some d.count }) =
      record {
        few = λ n is. subst (λ (m : ℕ). (1 ≤ m) × (m ≤ MAX_SITES)) (Some_inj is) (d.is.2.1, d.is.2.2);
        range = sound.range;
        first = λ is. unsaid (Some d.count) d.count refl is;
        items = subst (λ (items : List Item). AreNewItems d.count [] items) (sym bare.0) tt;
        waits = sound.waits;
        requests = none-asks (declared_by (record before { sites = Some d.count })) before.clients bare.1;
      } in
      subst Sound (sym d.same) next

  journal-sound : DeclaresJournal before line after → Sound after
  journal-sound d =
      let next : Sound (record before { journal = Some d.limit }) =
      record {
        few = sound.few;
        range = λ n is. subst (λ (m : ℕ). (MIN_JOURNAL ≤ m) × (m ≤ MAX_JOURNAL)) (Some_inj is) (d.is.2.1, d.is.2.2);
        first = sound.first;
        items = sound.items;
        waits = sound.waits;
        requests = none-asks (declared_by (record before { journal = Some d.limit })) before.clients (sound.waits d.early);
      } in
      subst Sound (sym d.same) next

  item-sound : DeclaresItem before line after → Sound after
  item-sound d =
      let new : IsNewItem (or_default 0 before.sites) before.items d.item = record { place = d.place.1; fits = d.fits; name = d.name; free = d.free; room = d.room } in
      let next : Sound (record before { items = before.items ++ d.item ∷ [] }) =
      record {
        few = sound.few;
        range = sound.range;
        first = λ is. unsaid before.sites d.sites d.said is;
        items = one-new (or_default 0 before.sites) [] before.items d.item sound.items new;
        waits = sound.waits;
        requests = none-asks (declared_by (record before { items = before.items ++ d.item ∷ [] })) before.clients (sound.waits d.early);
      } in
      subst Sound (sym d.same) next

  plan-sound : DeclaresPlan before line after → Sound after
  plan-sound d =
      let next : Sound (record before { fault_plan = Some d.fault_plan }) =
      record { few = sound.few; range = sound.range; first = sound.first; items = sound.items; waits = sound.waits; requests = sound.requests } in
      subst Sound (sym d.same) next

  client-sound : DeclaresClient before line after → Sound after
  client-sound d =
      let catalog : Declared = declared_by before in
      let next : Sound (record before { begun = true; clients = before.clients ++ new_client d.site ∷ [] }) =
      record {
        few = sound.few;
        range = sound.range;
        first = λ is. unsaid before.sites d.sites d.said is;
        items = sound.items;
        waits = λ is. absurd (let wrong : ⊥ = cc in wrong);
        requests = All-append (OfClient catalog) before.clients (new_client d.site ∷ []) sound.requests
            (All-cons (OfClient catalog) (new_client d.site) [] (All-nil (IsWrittenWish catalog)) (All-nil (OfClient catalog)));
      } in
      subst Sound (sym d.same) next

  request-sound : DeclaresRequest before line after → Sound after
  request-sound d =
      let catalog : Declared = declared_by before in
      let next : Sound (record before { clients = with_wish before.clients (to_ask d.request) }) =
      record {
        few = sound.few;
        range = sound.range;
        first = λ is. unsaid before.sites d.sites d.said is;
        items = sound.items;
        waits = λ is. absurd (d.some (sound.waits is));
        requests = one-asks catalog before.clients (to_ask d.request) sound.requests (record { line = request-text before after line d; is = d.is; may = d.may });
      } in
      subst Sound (sym d.same) next

  peek-sound : DeclaresPeek before line after → Sound after
  peek-sound d =
      let catalog : Declared = declared_by before in
      let wish : Wish = to_peek (last_requests before.clients) d.item in
      let next : Sound (record before { clients = with_wish before.clients wish }) =
      record {
        few = sound.few;
        range = sound.range;
        first = λ is. unsaid before.sites d.sites d.said is;
        items = sound.items;
        waits = λ is. absurd (d.some (sound.waits is));
        requests = one-asks catalog before.clients wish sound.requests tt;
      } in
      subst Sound (sym d.same) next

  declared-sound : Declares before line after → Sound after
  declared-sound d =
      ⊎_elim sites-sound
      (λ other. ⊎_elim journal-sound
      (λ other. ⊎_elim item-sound (λ own. ⊎_elim plan-sound (λ other. ⊎_elim client-sound (λ wish. ⊎_elim request-sound peek-sound wish) other) own) other)
      other)
      d

-- ## All lines
lines-sound : (before last : Before) (ls : List TextLine) (es : List Event) → AreLines before ls es last → Sound before → Sound last
lines-sound before last ls es (none same) sound = sound
lines-sound before last ls es (declaration b after l line rest more declares are) sound = lines-sound after last rest es are (declared-sound before after line sound declares)
lines-sound before last ls es (event b l line rest e more is are) sound =
    lines-sound (with_event before) last rest more are
    (record { few = sound.few; range = sound.range; first = sound.first; items = sound.items; waits = λ same. absurd (let wrong : ⊥ = cc in wrong); requests = sound.requests })

none-said : Sound (at_first live)
none-said = record {
  few = λ n is. absurd (let wrong : ⊥ = cc in wrong);
  range = λ n is. absurd (let wrong : ⊥ = cc in wrong);
  first = λ same. (refl, refl);
  items = tt;
  waits = λ same. refl;
  requests = All-nil (OfClient (declared_by (at_first live)));
}

limit-is : (journal : Option ℕ) → IsLimit journal → (MIN_JOURNAL ≤ or_default MAX_JOURNAL journal) × (or_default MAX_JOURNAL journal ≤ MAX_JOURNAL)
limit-is None range = (omega arith, omega arith)
limit-is (Some n) range = range n refl

module _ (text : List ℕ) (script : LiveScript) (is : IsLiveScript text script) where
  at_end : Sound is.last
  at_end = lines-sound (at_first live) is.last (significant text) [] is.are none-said

  pub catalog-written : IsWritten script.catalog
  catalog-written =
      let few : (1 ≤ or_default 0 is.last.sites) × (or_default 0 is.last.sites ≤ MAX_SITES) =
      subst (λ (said : Option ℕ). (1 ≤ or_default 0 said) × (or_default 0 said ≤ MAX_SITES)) (sym is.said) (at_end.few is.sites is.said) in
      let limit = limit-is is.last.journal at_end.range in
      let written : IsWritten (declared_by is.last) = record { some = few.0; few = few.1; least = limit.0; most = limit.1; items = at_end.items } in
      subst (λ (s : LiveScript). IsWritten s.catalog) (sym is.is) written

  pub requests-written : All (OfClient script.catalog) script.clients
  requests-written = subst (λ (s : LiveScript). All (OfClient s.catalog) s.clients) (sym is.is) at_end.requests
