-- The merge of histories that fit together, moment by moment.
use Rattle.std.proofs.Common.{◌≡◌, ◌≢◌, ℕ, ◌+◌, ◌<◌, true, false, Some, List, [], ◌∷◌, ◌++◌, All, length, slice_get, append_assoc, append-nil, length-append, sym, refl, ap, ◌∙◌, subst, ⊎_elim, arith}
use Rattle.std.specs.Prelude.{flat_map, option_map}
use Rattle.std.proofs.lemmas.Grind.{flat_map-append}
use Rattle.std.proofs.lemmas.List.{length-map, length-replicate, get_or-replicate, get_or_append_left}
use Rattle.std.proofs.lemmas.Option.{slice_get-map, slice_get_within, slice_get-get_or, get_or_from_slice_get}
use lib.Seq.{get_or-append-add}
use mathlib.Core.Logic.{dite}
use native.Mathlib.Decide.{ℕ_discrete}
use Rattle.pv_format.specs.Message.{Envelope}
use Rattle.pv_law_histories.specs.Course.{left_by, sent_by, IsStep, course, AreSteps, Sent}
use Rattle.pv_law_histories.specs.Fitting.{history_of, WasSentBefore, FitTogether}
use Rattle.pv_law_histories.specs.History.{Intake, request, parcel, tick, Stamped}
use Rattle.pv_law_histories.specs.Merge.{Moment, IsMerge, entries_of, number_of, events_at, events_of_merge, lines_at, lines_of_merge}
use Rattle.pv_law_histories.proofs.CourseLemmas.{course-append, step-within, course-arm, course-formatted, sent_by-length, Sent-append, Sent-later}
use Rattle.pv_law_histories.proofs.EventLemmas.{Becomes, IsThere, moment-comes}
use Rattle.pv_law_histories.proofs.MomentLemmas.{All-middle, entries-same, entries-apart, entries-append, entries-later, order-before, order-rest, order-later, total, total-append, is_of-itself, has, has-front, has-last, number-front, number-back, number-here, before-none}
use Rattle.pv_law_world.proofs.AppendLemmas.{run-append, world_after-append}
use Rattle.pv_protocol.specs.Lines.{Line}
use Rattle.pv_protocol.specs.Run.{run, printed, world_after, lines_of_transitions}
use Rattle.pv_protocol.specs.State.{Setup, Site, Outgoing}
use Rattle.pv_protocol.specs.World.{World, no_site, site_at, first_site, from_site, opening}
use Rattle.pv_protocol.specs.WorldStep.{Transition}

-- ## What stands in lists
stays : {A : Type 0} (xs ys : List A) (i : ℕ) (x : A) → slice_get xs i ≡ Some x → slice_get (xs ++ ys) i ≡ Some x
stays xs ys i x at =
    let within = slice_get_within xs i x at in
    let longer : i < length (xs ++ ys) = let sum = length-append xs ys in omega arith in
    slice_get-get_or (xs ++ ys) i x longer ∙ ap Some (get_or_append_left xs ys x i within ∙ get_or_from_slice_get xs i x x at)

comes_behind : {A : Type 0} (xs ys : List A) (i : ℕ) (x : A) → slice_get ys i ≡ Some x → slice_get (xs ++ ys) (length xs + i) ≡ Some x
comes_behind xs ys i x at =
    let within = slice_get_within ys i x at in
    let longer : length xs + i < length (xs ++ ys) = let sum = length-append xs ys in omega arith in
    slice_get-get_or (xs ++ ys) (length xs + i) x longer ∙ ap Some (get_or-append-add xs ys i x ∙ get_or_from_slice_get ys i x x at)

-- a message that a site sends, with its sender
abbrev envelope_of : ℕ → Outgoing → Envelope
envelope_of from outgoing = record { from = from; to = outgoing.to; message = outgoing.message }

module _ (setup : Setup) (histories : List (List Stamped)) where
  -- A world after these moments: each site stands where its entries among them leave it, and each message that they sent was sent and has
  -- the number that it has among them.
  record Stands (moments : List Moment) (world : World) : Type 0 where
    width : length world.sites ≡ length histories
    sites : (n : ℕ) → n < length histories → site_at world n ≡ course setup n first_site (entries_of n moments)
    count : length world.sent ≡ total moments
    sent : (from stamp place : ℕ) (outgoing : Outgoing) → from < length histories → Sent setup from first_site (entries_of from moments) stamp place outgoing
        → (has from stamp moments ≡ true) × (slice_get world.sent (number_of moments from stamp place) ≡ Some (envelope_of from outgoing))

  -- ## One moment more
  module _ (moments : List Moment) (moment : Moment) (world after : World) (stands : Stands moments world)
      (new : has moment.site moment.entry.stamp moments ≡ false)
      (is : IsStep setup moment.site (course setup moment.site first_site (entries_of moment.site moments)) moment.entry)
      (becomes : Becomes world moment.site (left_by setup moment.site (course setup moment.site first_site (entries_of moment.site moments)) moment.entry)
      (sent_by setup moment.site (course setup moment.site first_site (entries_of moment.site moments)) moment.entry) after) where
    abbrev longer : List Moment
    longer = moments ++ moment ∷ []

    abbrev site : Site
    site = course setup moment.site first_site (entries_of moment.site moments)

    abbrev sends : List Outgoing
    sends = sent_by setup moment.site site moment.entry

    -- the entries of its own site, and of another one
    entries-own : entries_of moment.site longer ≡ entries_of moment.site moments ++ moment.entry ∷ []
    entries-own = entries-append moment.site moments (moment ∷ []) ∙ ap (λ (more : List Stamped). entries_of moment.site moments ++ more) (entries-same moment.site moment [] refl)

    entries-other : (n : ℕ) → moment.site ≢ n → entries_of n longer ≡ entries_of n moments
    entries-other n apart =
        entries-append n moments (moment ∷ []) ∙ ap (λ (more : List Stamped). entries_of n moments ++ more) (entries-apart n moment [] apart)
        ∙ append-nil (entries_of n moments)

    sites-longer : (n : ℕ) → n < length histories → site_at after n ≡ course setup n first_site (entries_of n longer)
    sites-longer n within = dite (ℕ_discrete moment.site n)
        (λ same. subst (λ (k : ℕ). site_at after k ≡ course setup k first_site (entries_of k longer)) same
        (becomes.here ∙ sym (ap (course setup moment.site first_site) entries-own ∙ course-append setup moment.site first_site (entries_of moment.site moments) (moment.entry ∷ []))))
        (λ apart. becomes.others n (λ same. apart (sym same)) ∙ (stands.sites n within ∙ ap (course setup n first_site) (sym (entries-other n apart))))

    count-longer : length after.sent ≡ total longer
    count-longer =
        let sent = ap (λ (all : List Envelope). length all) becomes.sent ∙ length-append world.sent (from_site moment.site sends) in
        let here = length-map sends (λ (outgoing : Outgoing). envelope_of moment.site outgoing) ∙ sent_by-length setup moment.site site moment.entry is in
        let before = stands.count in
        let all = total-append moments (moment ∷ []) in
        omega arith

    -- What was sent is numbered as before.
    sent-before : (from stamp place : ℕ) (outgoing : Outgoing) → from < length histories → Sent setup from first_site (entries_of from moments) stamp place outgoing
        → (has from stamp longer ≡ true) × (slice_get after.sent (number_of longer from stamp place) ≡ Some (envelope_of from outgoing))
    sent-before from stamp place outgoing within sent =
        let old = stands.sent from stamp place outgoing within sent in (
          has-front from stamp moments (moment ∷ []) old.0,
          subst (λ (n : ℕ). slice_get after.sent n ≡ Some (envelope_of from outgoing)) (sym (number-front from stamp place moments (moment ∷ []) old.0))
              (subst (λ (all : List Envelope). slice_get all (number_of moments from stamp place) ≡ Some (envelope_of from outgoing)) (sym becomes.sent)
              (stays world.sent (from_site moment.site sends) (number_of moments from stamp place) (envelope_of from outgoing) old.1)),
        )

    -- What the moment sends comes behind it.
    sent-now : (place : ℕ) (outgoing : Outgoing) → slice_get sends place ≡ Some outgoing
        → (has moment.site moment.entry.stamp longer ≡ true)
        × (slice_get after.sent (number_of longer moment.site moment.entry.stamp place) ≡ Some (envelope_of moment.site outgoing))
    sent-now place outgoing at =
        let number : number_of longer moment.site moment.entry.stamp place ≡ length world.sent + place =
        number-back moment.site moment.entry.stamp place moments (moment ∷ []) new
        ∙ ap (λ (n : ℕ). total moments + n) (number-here moment.site moment.entry.stamp place moment [] (is_of-itself moment))
        ∙ ap (λ (n : ℕ). n + place) (sym stands.count) in
        let here : slice_get (from_site moment.site sends) place ≡ Some (envelope_of moment.site outgoing) =
        slice_get-map (λ (o : Outgoing). envelope_of moment.site o) sends place ∙ ap (option_map (λ (o : Outgoing). envelope_of moment.site o)) at in (
          has-last moment.site moment.entry.stamp moments moment (is_of-itself moment),
          subst (λ (n : ℕ). slice_get after.sent n ≡ Some (envelope_of moment.site outgoing)) (sym number)
              (subst (λ (all : List Envelope). slice_get all (length world.sent + place) ≡ Some (envelope_of moment.site outgoing)) (sym becomes.sent)
              (comes_behind world.sent (from_site moment.site sends) place (envelope_of moment.site outgoing) here)),
        )

    sent-own : (stamp place : ℕ) (outgoing : Outgoing) → moment.site < length histories
        → Sent setup moment.site first_site (entries_of moment.site longer) stamp place outgoing
        → (has moment.site stamp longer ≡ true) × (slice_get after.sent (number_of longer moment.site stamp place) ≡ Some (envelope_of moment.site outgoing))
    sent-own stamp place outgoing within sent =
        ⊎_elim (λ before. sent-before moment.site stamp place outgoing within before)
        (λ now. ⊎_elim
        (λ here. subst (λ (at : ℕ). (has moment.site at longer ≡ true) × (slice_get after.sent (number_of longer moment.site at place) ≡ Some (envelope_of moment.site outgoing)))
        here.0 (sent-now place outgoing here.1))
        (λ never. absurd never) now)
        (Sent-append setup moment.site first_site (entries_of moment.site moments) (moment.entry ∷ []) stamp place outgoing
        (subst (λ (entries : List Stamped). Sent setup moment.site first_site entries stamp place outgoing) entries-own sent))

    sent-longer : (from stamp place : ℕ) (outgoing : Outgoing) → from < length histories → Sent setup from first_site (entries_of from longer) stamp place outgoing
        → (has from stamp longer ≡ true) × (slice_get after.sent (number_of longer from stamp place) ≡ Some (envelope_of from outgoing))
    sent-longer from stamp place outgoing within sent = dite (ℕ_discrete moment.site from)
        (λ same. subst (λ (k : ℕ). k < length histories → Sent setup k first_site (entries_of k longer) stamp place outgoing
        → (has k stamp longer ≡ true) × (slice_get after.sent (number_of longer k stamp place) ≡ Some (envelope_of k outgoing)))
        same (sent-own stamp place outgoing) within sent)
        (λ apart. sent-before from stamp place outgoing within
        (subst (λ (entries : List Stamped). Sent setup from first_site entries stamp place outgoing) (entries-other from apart) sent))

    stands-longer : Stands longer after
    stands-longer = record { width = becomes.width ∙ stands.width; sites = sites-longer; count = count-longer; sent = sent-longer }

  -- ## All of them
  module _ (all : List Moment) (fit : FitTogether setup histories) (merge : IsMerge histories all) where
    -- What is before a moment and what is behind it, of the moment's site.
    history-split : (before : List Moment) (more : List Moment) (n : ℕ) → all ≡ before ++ more → n < length histories
        → history_of histories n ≡ entries_of n before ++ entries_of n more
    history-split before more n split within = sym (merge.entries n within) ∙ ap (entries_of n) split ∙ entries-append n before more

    -- A message that is taken in is there.
    there : (before : List Moment) (moment : Moment) (more : List Moment) (world : World) (intake : Intake) → all ≡ before ++ moment ∷ more → Stands before world
        → WasSentBefore setup histories moment.site moment.entry.stamp intake → IsThere world all moment.site intake
    there before moment more world (request client asked) split stands was = tt
    there before moment more world (parcel from stamp place message) split stands was =
        let outgoing : Outgoing = record { to = moment.site; message = message } in
        let order = order-rest before (moment ∷ more) (subst Rattle.pv_law_histories.specs.Merge.AreInOrder split merge.order) in
        let later = entries-later from stamp (moment ∷ more) (order-later moment more stamp order was.1) in
        ⊎_elim
        (λ sent. let found = stands.sent from stamp place outgoing was.0 sent in
        subst (λ (n : ℕ). slice_get world.sent n ≡ Some (envelope_of from outgoing))
        (sym (ap (λ (moments : List Moment). number_of moments from stamp place) split ∙ number-front from stamp place before (moment ∷ more) found.0)) found.1)
        (λ sent. absurd (Sent-later setup from (course setup from first_site (entries_of from before)) (entries_of from (moment ∷ more)) stamp place outgoing later sent))
        (Sent-append setup from first_site (entries_of from before) (entries_of from (moment ∷ more)) stamp place outgoing
        (subst (λ (entries : List Stamped). Sent setup from first_site entries stamp place outgoing) (history-split before (moment ∷ more) from split was.0) was.2))
    there before moment more world tick split stands was = tt

    -- The moments that are left are a run.
    goes : (before more : List Moment) (world : World) → all ≡ before ++ more → Stands before world
        → (lines_of_transitions (run setup world (flat_map (events_at all) more)) ≡ flat_map lines_at more)
        × Stands all (world_after world (run setup world (flat_map (events_at all) more)))
    goes before [] world split stands = (refl, subst (λ (moments : List Moment). Stands moments world) (sym (split ∙ append-nil before)) stands)
    goes before (moment ∷ more) world split stands =
        let n = moment.site in
        let entries = entries_of n before in
        let site : Site = course setup n first_site entries in
        let within : n < length histories = All-middle (λ (m : Moment). m.site < length histories) before moment more (subst (All (λ m. m.site < length histories)) split merge.sites) in
        let own : history_of histories n ≡ entries ++ moment.entry ∷ entries_of n more =
        history-split before (moment ∷ more) n split within ∙ ap (λ (rest : List Stamped). entries ++ rest) (entries-same n moment more refl) in
        let is : IsStep setup n site moment.entry = step-within setup n first_site entries moment.entry (entries_of n more)
        (subst (AreSteps setup n first_site) own (fit.steps n within)) in
        let was = All-middle (λ (entry : Stamped). WasSentBefore setup histories n entry.stamp entry.intake) entries moment.entry (entries_of n more)
        (subst (All (λ entry. WasSentBefore setup histories n entry.stamp entry.intake)) own (fit.sent n within)) in
        let comes = moment-comes setup n world all moment.entry site (let width = stands.width in omega arith) (stands.sites n within)
        (course-arm setup n first_site entries refl) (course-formatted setup n first_site entries refl) is (there before moment more world moment.entry.intake split stands was) in
        let first = events_at all moment in
        let rest = flat_map (events_at all) more in
        let after = world_after world (run setup world first) in
        let new = before-none before moment (order-before before moment more (subst Rattle.pv_law_histories.specs.Merge.AreInOrder split merge.order)) in
        let next = stands-longer before moment world after stands new is comes.becomes in
        let left = goes (before ++ moment ∷ []) more after (split ∙ sym (append_assoc before (moment ∷ []) more)) next in
        let whole = run-append setup world first rest in (
          ap lines_of_transitions whole ∙ flat_map-append (λ (t : Transition). t.lines) (run setup world first) (run setup after rest)
              ∙ ap (λ (lines : List Line). lines ++ lines_of_transitions (run setup after rest)) comes.prints ∙ ap (λ (lines : List Line). lines_at moment ++ lines) left.0,
          subst (Stands all) (sym (ap (world_after world) whole ∙ world_after-append world (run setup world first) (run setup after rest))) left.1,
        )

    opens : Stands [] (opening setup)
    opens = record {
      width = length-replicate setup.catalog.sites first_site ∙ sym fit.count;
      sites = λ n within. get_or-replicate setup.catalog.sites n first_site no_site (let count = fit.count in omega arith);
      count = refl;
      sent = λ from stamp place outgoing within sent. absurd sent;
    }

    pub merged-lines : printed setup (events_of_merge all) ≡ lines_of_merge all
    unfolding printed
    merged-lines = (goes [] all (opening setup) refl opens).0

    pub merged-sites : (n : ℕ) → n < setup.catalog.sites
        → site_at (world_after (opening setup) (run setup (opening setup) (events_of_merge all))) n ≡ course setup n first_site (history_of histories n)
    merged-sites n within =
        let within' : n < length histories = let count = fit.count in omega arith in
        (goes [] all (opening setup) refl opens).1.sites n within' ∙ ap (course setup n first_site) (merge.entries n within')
