-- Whatever happens in a deployment, numbers are let out first.
use Rattle.std.proofs.Common.{◌≡◌, ◌⊎◌, inl, inr, ⊎_elim, ℕ, Option, Some, None, List, [], ◌∷◌, ◌++◌, map, All, append_assoc, append-nil, refl, sym, ap, ap₂, ◌∙◌, subst}
use Rattle.std.specs.List.{Contains}
use Rattle.std.specs.Option.{option_to_list}
use Rattle.std.proofs.lemmas.List.{map-append}
use Rattle.std.proofs.lemmas.List.Elements.{All-append, All-cons, All-contains, All-map, All-nil, All-weaker, Contains-append_cases, Contains-append_left, Contains-append_right}
use Rattle.pv_base.proofs.Basics.{Some_inj}
use Rattle.pv_base.proofs.ContainsLemmas.{Contains-cases, Contains-first, Contains-nil}
use Rattle.pv_base.proofs.MapLemmas.{Contains-map}
use Rattle.pv_base.specs.declared.txn.TxnId.{TxnId}
use Rattle.pv_disk_model.specs.Size.{Contents}
use Rattle.pv_format.specs.Contents.{SpellRecords}
use Rattle.pv_format.specs.Record.{Record}
use Rattle.pv_format.specs.RecordSpelling.{IsReadAs}
use Rattle.pv_law_hosted.proofs.NumberSteps.{IsGivenWell, IsItsOwn, IsSentWell, IsTold, IsWorkedOn, step-told}
use Rattle.pv_law_hosted.proofs.AskedLemmas.{outs-of-held}
use Rattle.pv_law_hosted.specs.Deployment.{Station}
use Rattle.pv_law_hosted.specs.Numbers.{HasNumbers, IsAsking, IsKept, IsNumberFirst, IsNumbered, IsSaying, held_by, outs_of}
use Rattle.pv_law_step.proofs.Lists.{OfSome, all-from, all-head, all-tail}
use Rattle.pv_protocol.specs.Committed.{home_of}
use Rattle.pv_protocol.specs.State as model
use Rattle.pv_protocol.specs.State.{Entry, Running, began}
use Rattle.pv_protocol.specs.Step.{step_on}
use Rattle.pv_site.specs.SiteState.{SiteState, here_with}
use Rattle.pv_host.specs.HostLog.{HostState}
use Rattle.pv_embed.specs.Held.{Held, Out, message, note}
use Rattle.pv_embed.specs.Hosted.{HasStepped, HostedState}
use Rattle.pv_embed.specs.Outputs.{outs}

-- ## Lists
-- Where two lists end, one of both parts has the one in the middle.
split-at : {X : Type 0} (front back earlier later : List X) (x : X) → front ++ back ≡ earlier ++ x ∷ later
    → ((rest : List X) × (front ≡ earlier ++ x ∷ rest)) ⊎ ((more : List X) × (earlier ≡ front ++ more) × (back ≡ more ++ x ∷ later))
split-at [] back earlier later x is = inr (earlier, refl, is)
split-at (one ∷ front) back [] later x is =
    let first : one ≡ x = cc in
    inl (front, ap (λ y. y ∷ front) first)
split-at (one ∷ front) back (other ∷ earlier) later x is =
    let first : one ≡ other = cc in
    let rest : front ++ back ≡ earlier ++ x ∷ later = cc in
    ⊎_elim
    (λ left. inl (left.0, ap₂ (λ y l. y ∷ l) first left.1))
    (λ right. inr (right.0, ap₂ (λ y l. y ∷ l) (sym first) right.1, right.2))
    (split-at front back earlier later x rest)

pub parted : {X : Type 0} (xs : List X) (x : X) → Contains xs x → (earlier later : List X) × (xs ≡ earlier ++ x ∷ later)
parted [] x there = absurd (Contains-nil x there)
parted (y ∷ ys) x there =
    ⊎_elim
    (λ same. ([], ys, ap (λ z. z ∷ ys) same))
    (λ behind. let rest = parted ys x behind in (y ∷ rest.0, rest.1, ap (λ l. y ∷ l) rest.2))
    (Contains-cases y ys x there)

pub All-front : {X : Type 0} (P : X → Type 0) (xs ys : List X) → All P (xs ++ ys) → All P xs
All-front P xs ys all = all-from P xs (λ x there. All-contains P (xs ++ ys) x all (Contains-append_left xs ys x there))

all-some : {X : Type 0} (P : X → Type 0) (one : Option X) → OfSome P one → All P (option_to_list one)
all-some P None is = All-nil P
all-some P (Some x) is = All-cons P x [] is (All-nil P)

module _ (txn : TxnId) (asked : Type 0) where
  -- ## Records
  module _ (one_record : (entry other : Record) (bytes : List ℕ) → IsReadAs entry bytes → IsReadAs other bytes → entry ≡ other) where
    -- Records at the beginning of what spells others are the first of these.
    pub kept-front : (records all : List Record) (contents later : Contents) → SpellRecords records contents → SpellRecords all (contents ++ later)
        → All (IsKept txn asked) all → All (IsKept txn asked) records
    kept-front [] all contents later spelled whole kept = All-nil (IsKept txn asked)
    kept-front (one ∷ records) all [] later spelled whole kept = absurd spelled
    kept-front (one ∷ records) [] (content ∷ contents) later spelled whole kept = absurd whole
    kept-front (one ∷ records) (other ∷ all) (content ∷ contents) later spelled whole kept =
        let same : other ≡ one = one_record other one content whole.0 spelled.0 in
        All-cons (IsKept txn asked) one records (subst (IsKept txn asked) same (all-head (IsKept txn asked) other all kept))
        (kept-front records all contents later spelled.1 whole.1 (all-tail (IsKept txn asked) other all kept))

  -- ## A station as others have come to it
  module _ (later : Type 0) (then : asked → later) where
    process-later : (out : List Out) (file : List ℕ) (hosted : Option HostedState) → HasNumbers txn asked out file hosted → HasNumbers txn later out file hosted
    process-later out file None left = λ records contents journal spelled. All-weaker (IsKept txn asked) (IsKept txn later) (λ kept so says. then (so says)) records (left records contents journal spelled)
    process-later out file (Some hosted) has = (All-weaker (IsKept txn asked) (IsKept txn later) (λ kept so says. then (so says)) hosted.site.records has.0, has.1)

    pub first-later : (n : ℕ) (station : Station) → IsNumberFirst txn asked n station → IsNumberFirst txn later n station
    first-later n station is = record {
      first = is.first;
      own = is.own;
      says = All-weaker (λ (out : Out). IsSaying txn out → asked) (λ (out : Out). IsSaying txn out → later) (λ out so says. then (so says)) (outs_of station) is.says;
      process = process-later (outs_of station) station.file station.hosted is.process;
    }

  module _ (n : ℕ) (old : Station) (is : IsNumberFirst txn asked n old) where
    -- The same is let out and held, and the process has what it had.
    pub first-same : (new : Station) → outs_of new ≡ outs_of old → HasNumbers txn asked (outs_of old) new.file new.hosted → IsNumberFirst txn asked n new
    first-same new same has = record {
      first = λ earlier later out split asks. is.first earlier later out (sym same ∙ split) asks;
      own = λ there. is.own (subst (λ (l : List Out). Contains l (note (began txn))) same there);
      says = subst (All (λ (out : Out). IsSaying txn out → asked)) (sym same) is.says;
      process = subst (λ (l : List Out). HasNumbers txn asked l new.file new.hosted) (sym same) has;
    }

    -- The process goes, and what it holds is lost.
    pub first-gone : (left : List ℕ) → HasNumbers txn asked old.let_out left None → IsNumberFirst txn asked n (record old { file = left; hosted = None })
    first-gone left has =
        let out = old.let_out in
        let held = held_by old.hosted in
        let same : out ++ [] ≡ out = append-nil out in
        record {
          first = λ earlier later it split asks.
              is.first earlier (later ++ held) it
              (ap (λ (l : List Out). l ++ held) (sym same ∙ split) ∙ append_assoc earlier (it ∷ later) held) asks;
          own = λ there. is.own (Contains-append_left out held (note (began txn)) (subst (λ (l : List Out). Contains l (note (began txn))) same there));
          says = subst (All (λ (it : Out). IsSaying txn it → asked)) (sym same) (All-front (λ (it : Out). IsSaying txn it → asked) out held is.says);
          process = has;
        }

    -- ## The site makes a step
    module _ (site next : HostedState) (here : old.hosted ≡ Some site) (me : site.site.me ≡ n) (input : model.Input)
        (well : IsGivenWell txn asked input) (s : HasStepped site next input) where
      abbrev told : Type 0
      told = Contains (outs_of old) (note (began txn))

      has : HasNumbers txn asked (outs_of old) old.file (Some site)
      has = subst (HasNumbers txn asked (outs_of old) old.file) here is.process

      abbrev step : model.Step
      step = step_on (here_with site.site s.running) input

      made : IsTold txn asked told (here_with site.site s.running) step
      made = step-told txn asked told (here_with site.site s.running) (has.1 s.running s.was) has.0 input well

      me-next : next.site.me ≡ n
      me-next = ap (λ (after : SiteState HostState). after.me) s.steps.site ∙ me

      abbrev more : List Out
      more = outs n step.sends step.notes

      abbrev new : Station
      new = record old { hosted = Some next }

      -- What it sends and reports comes behind all that it held.
      outs-new : outs_of new ≡ outs_of old ++ more
      outs-new =
          ap (λ (l : List Held). old.let_out ++ map (λ (one : Held). one.out) l) s.held
          ∙ ap (λ (l : List Out). old.let_out ++ l) (map-append (λ (one : Held). one.out) site.held _)
          ∙ ap (λ (l : List Out). old.let_out ++ (map (λ (one : Held). one.out) site.held ++ l)) (outs-of-held _ _)
          ∙ ap (λ (k : ℕ). old.let_out ++ (map (λ (one : Held). one.out) site.held ++ outs k step.sends step.notes)) me-next
          ∙ sym (append_assoc old.let_out (map (λ (one : Held). one.out) site.held) more)
          ∙ ap (λ (h : Option HostedState). (old.let_out ++ held_by h) ++ more) (sym here)

      -- Of what it makes: it asks for votes only where the number was told, and the number is its own.
      abbrev IsWell : Out → Type 0
      IsWell out = ((IsAsking txn out → told) × (IsSaying txn out → asked)) × (out ≡ note (began txn) → home_of txn ≡ n)

      note-own : (reported : model.Note) → IsItsOwn txn site.site.me reported → note reported ≡ note (began txn) → home_of txn ≡ n
      note-own reported own same =
          let is-began : reported ≡ began txn = cc in
          subst (IsItsOwn txn site.site.me) is-began own refl ∙ me

      all-well : All IsWell more
      all-well =
          All-append IsWell (map (λ (sent : model.Outgoing). message (record { from = n; to = sent.to; message = sent.message })) step.sends) (map note step.notes)
          (All-map IsWell (λ (sent : model.Outgoing). message (record { from = n; to = sent.to; message = sent.message })) step.sends
          (All-weaker (IsSentWell txn asked told) (λ (sent : model.Outgoing). IsWell (message (record { from = n; to = sent.to; message = sent.message })))
          (λ sent sent-well. (sent-well, λ wrong. absurd (let no : ⊥ = cc in no))) step.sends made.sends))
          (All-map IsWell note step.notes
          (All-weaker (IsItsOwn txn site.site.me) (λ (reported : model.Note). IsWell (note reported))
          (λ reported own. ((λ no. absurd no, λ no. absurd no), note-own reported own)) step.notes made.notes))

      well-at : (out : Out) → Contains more out → IsWell out
      well-at out there = All-contains IsWell more out all-well there

      among : Contains step.notes (began txn) → Contains more (note (began txn))
      among there =
          Contains-append_right (map (λ (sent : model.Outgoing). message (record { from = n; to = sent.to; message = sent.message })) step.sends) (map note step.notes)
          (note (began txn)) (Contains-map note step.notes (began txn) there)

      works-new : (running : Running) → next.site.running ≡ Some running → All (IsNumbered txn (outs_of old ++ more)) running.entries
      works-new running up =
          let same : step.running ≡ running = Some_inj (sym (ap (λ (after : SiteState HostState). after.running) s.steps.site) ∙ up) in
          subst (λ (r : Running). All (IsNumbered txn (outs_of old ++ more)) r.entries) same
          (All-weaker (IsWorkedOn txn asked told step.notes) (IsNumbered txn (outs_of old ++ more))
          (λ entry works own.
          ⊎_elim (λ before. Contains-append_left (outs_of old) more (note (began txn)) before)
          (λ now. Contains-append_right (outs_of old) more (note (began txn)) (among now)) (works own)) step.running.entries made.entries)

      kept-new : All (IsKept txn asked) next.site.records
      kept-new =
          subst (λ (after : SiteState HostState). All (IsKept txn asked) after.records) (sym s.steps.site)
          (All-append (IsKept txn asked) site.site.records (option_to_list step.appended) has.0 (all-some (IsKept txn asked) step.appended made.appended))

      pub first-stepped : IsNumberFirst txn asked n new
      first-stepped =
          let all = outs_of old ++ more in
          record {
            first = λ earlier later out split asks.
                ⊎_elim
                (λ before. is.first earlier before.0 out before.1 asks)
                (λ behind.
                subst (λ (l : List Out). Contains l (note (began txn))) (sym behind.1)
                (Contains-append_left (outs_of old) behind.0 (note (began txn))
                ((well-at out (subst (λ (l : List Out). Contains l out) (sym behind.2) (Contains-append_right behind.0 (out ∷ later) out (Contains-first out later)))).0.0 asks)))
                (split-at (outs_of old) more earlier later out (sym outs-new ∙ split));
            own = λ there.
                ⊎_elim is.own (λ now. (well-at (note (began txn)) now).1 refl)
                (Contains-append_cases (outs_of old) more (note (began txn)) (subst (λ (l : List Out). Contains l (note (began txn))) outs-new there));
            says = subst (All (λ (out : Out). IsSaying txn out → asked)) (sym outs-new)
                (All-append (λ (out : Out). IsSaying txn out → asked) (outs_of old) more is.says
                (All-weaker IsWell (λ (out : Out). IsSaying txn out → asked) (λ out so. so.0.1) more all-well));
            process = (kept-new, λ running up. subst (λ (l : List Out). All (IsNumbered txn l) running.entries) (sym outs-new) (works-new running up));
          }
