-- What a change of a world in memory makes of the world that it stands for.
use Rattle.std.proofs.Common.{arith, ◌≡◌, ℕ, zero, suc, ◌+◌, ◌<◌, Bool, true, false, Some, None, List, [], ◌∷◌, ◌++◌, map, length, refl, sym, ap, ap₂, subst, ◌∙◌}
use Rattle.std.specs.Prelude.{get_or, set}
use Rattle.std.proofs.lemmas.List.{length-set, map-append}
use Rattle.pv_base.specs.Catalog.{Declared}
use Rattle.pv_format.specs.Message.{Envelope}
use Rattle.pv_format.specs.MessageSpelling.{SpellsEnvelope}
use Rattle.pv_protocol.specs.Attempt.{without_site}
use Rattle.pv_protocol.specs.Limit.{over_limit}
use Rattle.pv_protocol.specs.State as state
use Rattle.pv_protocol.specs.World as model
use Rattle.pv_protocol.specs.World.{no_site, site_at, with_done, with_sent, with_site}
use Rattle.pv_world.proofs.MailWorld.{Carry-done, Carry-dropped, Carry-posted, fresh-done, fresh-dropped, fresh-posted}
use Rattle.pv_world.specs.Carry.{Carry}
use Rattle.pv_world.specs.Mail.{MailState, Posted, with_done_post, without_posts_to}
use Rattle.pv_world.specs.Stands.{Stands, StandForSites, StandsForSite, placed_of}
use Rattle.pv_world.specs.Steps.{with_placed}
use Rattle.pv_world.specs.declared.cell.Cell.{Cell}
use Rattle.pv_world.specs.declared.order.Placed.{Placed}
use Rattle.pv_world.specs.declared.world.World.{World}

-- Cells and sites.

pub stands-count : (catalog : Declared) (n : ℕ) (cells : List Cell) (sites : List state.Site) → StandForSites catalog n cells sites → length cells ≡ length sites
stands-count catalog n [] [] stands = refl
stands-count catalog n [] (site ∷ sites) stands = absurd stands
stands-count catalog n (cell ∷ cells) [] stands = absurd stands
stands-count catalog n (cell ∷ cells) (site ∷ sites) stands = ap suc (stands-count catalog (n + 1) cells sites stands.1)

pub stands-from : (catalog : Declared) (n : ℕ) (cells : List Cell) (sites : List state.Site) (i : ℕ) (d : Cell) → StandForSites catalog n cells sites → i < length cells
    → StandsForSite catalog (n + i) (get_or cells i d) (get_or sites i no_site)
stands-from catalog n [] sites i d stands within = absurd (omega (arith, within))
stands-from catalog n (cell ∷ cells) [] i d stands within = absurd stands
stands-from catalog n (cell ∷ cells) (site ∷ sites) zero d stands within = subst (λ (m : ℕ). StandsForSite catalog m cell site) (omega arith) stands.0
stands-from catalog n (cell ∷ cells) (site ∷ sites) (suc i) d stands within =
    subst (λ (m : ℕ). StandsForSite catalog m (get_or cells i d) (get_or sites i no_site)) (omega arith)
    (stands-from catalog (n + 1) cells sites i d stands.1 (omega (arith, within)))

stands-set : (catalog : Declared) (n : ℕ) (cells : List Cell) (sites : List state.Site) (i : ℕ) (cell : Cell) (site : state.Site) → StandForSites catalog n cells sites
    → StandsForSite catalog (n + i) cell site → StandForSites catalog n (set cells i cell) (set sites i site)
stands-set catalog n [] [] i cell site stands new = tt
stands-set catalog n [] (s ∷ sites) i cell site stands new = absurd stands
stands-set catalog n (c ∷ cells) [] i cell site stands new = absurd stands
stands-set catalog n (c ∷ cells) (s ∷ sites) zero cell site stands new =
    (subst (λ (m : ℕ). StandsForSite catalog m cell site) (omega arith) new, stands.1)
stands-set catalog n (c ∷ cells) (s ∷ sites) (suc i) cell site stands new =
    (stands.0, stands-set catalog (n + 1) cells sites i cell site stands.1 (subst (λ (m : ℕ). StandsForSite catalog m cell site) (omega arith) new))

zero-plus : (n : ℕ) → 0 + n ≡ n
zero-plus n = omega arith

module _ (world : World) (is : model.World) (stands : Stands world is) where
  -- There is a cell for each site of the catalog.
  pub cells-count : length world.cells.items ≡ world.catalog.sites
  cells-count = stands-count world.catalog 0 world.cells.items is.sites stands.sites ∙ stands.count

  pub site-stands : (n : ℕ) (d : Cell) → n < world.catalog.sites → StandsForSite world.catalog n (get_or world.cells.items n d) (site_at is n)
  site-stands n d within =
      subst (λ (m : ℕ). StandsForSite world.catalog m (get_or world.cells.items n d) (site_at is n)) (zero-plus n)
      (stands-from world.catalog 0 world.cells.items is.sites n d stands.sites (omega (arith, within, cells-count)))

  module _ (new : World) (catalog : new.catalog ≡ world.catalog) where
    -- One site has changed.
    pub stands-with-site : (n : ℕ) (cell : Cell) (site : state.Site) → new.mail ≡ world.mail → new.order ≡ world.order
        → new.cells.items ≡ set world.cells.items n cell → StandsForSite world.catalog n cell site → Stands new (with_site is n site)
    unfolding over_limit
    stands-with-site n cell site mail order cells now = record {
      count = length-set is.sites n site ∙ (stands.count ∙ sym (ap (λ (c : Declared). c.sites) catalog));
      sites =
          subst (λ (c : Declared). StandForSites c 0 new.cells.items (set is.sites n site)) (sym catalog)
          (subst (λ (all : List Cell). StandForSites world.catalog 0 all (set is.sites n site)) (sym cells)
          (stands-set world.catalog 0 world.cells.items is.sites n cell site stands.sites (subst (λ (m : ℕ). StandsForSite world.catalog m cell site) (sym (zero-plus n)) now)));
      sent = subst (λ (m : MailState). Carry m.posts is.sent) (sym mail) stands.sent;
      fresh = subst (λ (m : MailState). map (λ (post : Posted). post.fresh) m.posts ≡ is.fresh) (sym mail) stands.fresh;
      order = ap (λ o. map placed_of o.items) order ∙ stands.order;
      within = subst (λ (m : MailState). over_limit m.limit is ≡ None) (sym mail) stands.within;
    }

    -- The mail has changed.
    with-mail : (sent : List Envelope) (fresh : List Bool) → new.cells ≡ world.cells → new.order ≡ world.order → Carry new.mail.posts sent
        → map (λ (post : Posted). post.fresh) new.mail.posts ≡ fresh → over_limit new.mail.limit (record is { sent = sent; fresh = fresh }) ≡ None
        → Stands new (record is { sent = sent; fresh = fresh })
    with-mail sent fresh cells order carry marks within = record {
      count = stands.count ∙ sym (ap (λ (c : Declared). c.sites) catalog);
      sites =
          subst (λ (c : Declared). StandForSites c 0 new.cells.items is.sites) (sym catalog)
          (subst (λ all. StandForSites world.catalog 0 all.items is.sites) (sym cells) stands.sites);
      sent = carry;
      fresh = marks;
      order = ap (λ o. map placed_of o.items) order ∙ stands.order;
      within = within;
    }

    module _ (cells : new.cells ≡ world.cells) (order : new.order ≡ world.order) where
      pub stands-done : (n : ℕ) → new.mail ≡ record world.mail { posts = with_done_post n world.mail.posts } → Stands new (with_done is n)
      unfolding over_limit
      stands-done n mail =
          with-mail is.sent (set is.fresh n false) cells order
          (subst (λ (m : MailState). Carry m.posts is.sent) (sym mail) (Carry-done n world.mail.posts is.sent stands.sent))
          (ap (λ (m : MailState). map (λ (post : Posted). post.fresh) m.posts) mail
          ∙ (fresh-done n world.mail.posts ∙ ap (λ (marks : List Bool). set marks n false) stands.fresh))
          (subst (λ (m : MailState). over_limit m.limit is ≡ None) (sym mail) stands.within)

      pub stands-dropped : (n : ℕ) → new.mail ≡ record world.mail { posts = without_posts_to n world.mail.posts }
          → Stands new (record is { fresh = without_site n is.sent is.fresh })
      unfolding over_limit
      stands-dropped n mail =
          with-mail is.sent (without_site n is.sent is.fresh) cells order
          (subst (λ (m : MailState). Carry m.posts is.sent) (sym mail) (Carry-dropped n world.mail.posts is.sent stands.sent))
          (ap (λ (m : MailState). map (λ (post : Posted). post.fresh) m.posts) mail
          ∙ (fresh-dropped n world.mail.posts is.sent stands.sent ∙ ap (λ (marks : List Bool). without_site n is.sent marks) stands.fresh))
          (subst (λ (m : MailState). over_limit m.limit is ≡ None) (sym mail) stands.within)

      pub stands-posted : (post : Posted) (envelope : Envelope) → new.mail ≡ record world.mail { posts = world.mail.posts ++ post ∷ [] } → post.to ≡ envelope.to
          → SpellsEnvelope envelope post.bytes → post.fresh ≡ true → over_limit world.mail.limit (with_sent is (envelope ∷ [])) ≡ None
          → Stands new (with_sent is (envelope ∷ []))
      stands-posted post envelope mail to spells marked within =
          with-mail (is.sent ++ envelope ∷ []) (is.fresh ++ true ∷ []) cells order
          (subst (λ (m : MailState). Carry m.posts (is.sent ++ envelope ∷ [])) (sym mail) (Carry-posted world.mail.posts is.sent post envelope stands.sent to spells))
          (ap (λ (m : MailState). map (λ (p : Posted). p.fresh) m.posts) mail
          ∙ (fresh-posted world.mail.posts post ∙ ap₂ (λ (marks : List Bool) (mark : Bool). marks ++ mark ∷ []) stands.fresh marked))
          (subst (λ (m : MailState). over_limit m.limit (with_sent is (envelope ∷ [])) ≡ None) (sym mail) within)

    -- The order has one more.
    pub stands-placed : (placed : state.Placed) (own : Placed) → new.cells ≡ world.cells → new.mail ≡ world.mail → new.order.items ≡ world.order.items ++ own ∷ []
        → placed_of own ≡ (placed.txn, placed.grants) → Stands new (with_placed is (Some placed))
    unfolding over_limit
    stands-placed placed own cells mail order own_is = record {
      count = stands.count ∙ sym (ap (λ (c : Declared). c.sites) catalog);
      sites =
          subst (λ (c : Declared). StandForSites c 0 new.cells.items is.sites) (sym catalog)
          (subst (λ all. StandForSites world.catalog 0 all.items is.sites) (sym cells) stands.sites);
      sent = subst (λ (m : MailState). Carry m.posts is.sent) (sym mail) stands.sent;
      fresh = subst (λ (m : MailState). map (λ (post : Posted). post.fresh) m.posts ≡ is.fresh) (sym mail) stands.fresh;
      order =
          ap (map placed_of) order
          ∙ (map-append placed_of world.order.items (own ∷ [])
          ∙ (ap₂ (λ front last. front ++ last ∷ []) stands.order own_is
          ∙ sym (map-append (λ (p : state.Placed). (p.txn, p.grants)) is.order (placed ∷ []))));
      within = subst (λ (m : MailState). over_limit m.limit is ≡ None) (sym mail) stands.within;
    }
