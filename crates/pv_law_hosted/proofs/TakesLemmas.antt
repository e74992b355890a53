-- A site takes something, or its host has written a record: what is done by then is settled, and the rest waits.
use Rattle.std.proofs.Common.{◌≡◌, ⊎_elim, ℕ, zero, suc, ◌+◌, ◌≤◌, Some, None, List, [], ◌∷◌, ◌++◌, length, length-append, map, All, append_assoc, append-nil, refl, sym, ap, ap₂, ◌∙◌, subst, arith}
use Rattle.std.proofs.lemmas.List.{map-append}
use Rattle.std.proofs.lemmas.List.Elements.{All-append, All-weaker}
use Rattle.std.proofs.lemmas.List.Sums.{sum_by-append}
use Rattle.pv_disk_model.specs.Size.{Contents, size_of}
use Rattle.pv_format.specs.Contents.{AreWritten}
use Rattle.pv_format.specs.Record.{Record}
use Rattle.pv_protocol.specs.Records.{journal_bytes}
use Rattle.pv_protocol.specs.State.{Setup}
use Rattle.pv_site.specs.SiteState.{setup_of}
use Rattle.pv_host.specs.HostFile.{IsFile}
use Rattle.pv_host.specs.HostLog.{contents_of}
use Rattle.pv_embed.specs.Held.{Held, Out}
use Rattle.pv_embed.specs.Hosted.{HostedState, stored_length}
use Rattle.pv_law_hosted.proofs.AskedLemmas.{may-parts}
use Rattle.pv_law_hosted.proofs.GivenLemmas.{all-grows, held_for-append, with_all-append}
use Rattle.pv_law_hosted.proofs.MirroredLemmas.{Becomes}
use Rattle.pv_law_hosted.proofs.SplitLemmas.{IsUp, all-up, given-either, held-within, outs-held, parted, written-front, written-length}
use Rattle.pv_law_hosted.proofs.StoreLemmas.{StoresGroup, still-written}
use Rattle.pv_law_hosted.specs.Asked.{Asked}
use Rattle.pv_law_hosted.specs.Deployment.{Deployment, Station, station_at}
use Rattle.pv_law_hosted.specs.DeploymentEvents.{Stands}
use Rattle.pv_law_hosted.specs.Given.{Content, Given, MayAllBeGiven, WaitsForRecord, held_for, outs_of_all, with_all, with_given}
use Rattle.pv_law_hosted.specs.Mirrored.{FollowsHosted}

module _ (setup : Setup) (d : Deployment) (n : ℕ) (asked : List Asked)
    (tells : (records : List Record) (contents : Contents) → AreWritten records contents → size_of contents ≡ journal_bytes records) where
  -- what is there now
  abbrev pub now : HostedState → Content
  now hosted = record { records = hosted.site.records; running = hosted.site.running }

  -- Of what was given some is done, and the rest waits.
  pub record HasDone (file : List ℕ) (next : HostedState) (content : Content) (before : List Held) (done left : List Given) : Type 0 where
    pub is_file : IsFile next.site.log file
    pub stands : Stands next
    pub me : next.site.me ≡ n
    pub catalog : setup_of next.site.catalog ≡ setup
    pub surplus : next.site.surplus ≡ 0
    pub stored : AreWritten (with_all setup n content done).records next.site.log.stored
    pub whole : AreWritten next.site.records (contents_of next.site.log)
    pub allowed : MayAllBeGiven setup n d asked (with_all setup n content done) left
    pub first : WaitsForRecord setup n (with_all setup n content done) left
    pub come : with_all setup n content (done ++ left) ≡ now next
    pub held : next.held ≡ before ++ held_for setup n content (done ++ left)
    pub in_file : All (λ (one : Held). one.length ≤ stored_length next) before
    pub unopened : (with_all setup n content done).running ≡ None → before ++ held_for setup n content done ≡ []

  pub done-follows : (file : List ℕ) (next : HostedState) (content : Content) (before : List Held) (done left : List Given) → HasDone file next content before done left
      → FollowsHosted setup d n asked file next (with_all setup n content done) (map (λ (one : Held). one.out) (before ++ held_for setup n content done))
  done-follows file next content before done left has =
      let settled = with_all setup n content done in
      let long : stored_length next ≡ journal_bytes settled.records = tells settled.records next.site.log.stored has.stored in
      record {
        is_file = has.is_file;
        stands = has.stands;
        me = has.me;
        catalog = has.catalog;
        surplus = has.surplus;
        stored = has.stored;
        whole = has.whole;
        waiting = left;
        allowed = has.allowed;
        first = has.first;
        come = sym (with_all-append setup n content done left) ∙ has.come;
        ready = before ++ held_for setup n content done;
        held = has.held ∙ ap (λ (l : List Held). before ++ l) (held_for-append setup n content done left)
            ∙ sym (append_assoc before (held_for setup n content done) (held_for setup n settled left));
        in_file = All-append (λ (one : Held). one.length ≤ stored_length next) before (held_for setup n content done) has.in_file
            (subst (λ most. All (λ (one : Held). one.length ≤ most) (held_for setup n content done)) (sym long) (held-within setup n content done));
        rest_is = refl;
        unopened = has.unopened;
      }

  pub done-becomes : (file : List ℕ) (next : HostedState) (content : Content) (rest : List Out) (before : List Held) (done left : List Given) (new : Station)
      → MayAllBeGiven setup n d asked content done → HasDone file next content before done left
      → rest ≡ map (λ (one : Held). one.out) before
      → new ≡ record { file = file; hosted = Some next; let_out = (station_at d n).let_out; asked = asked } → Becomes setup d n content rest new
  done-becomes file next content rest before done left new may has is here =
      let out = (station_at d n).let_out in
      let ready = map (λ (one : Held). one.out) (before ++ held_for setup n content done) in
      subst (Becomes setup d n content rest) (sym here)
      record {
        done = done;
        may = may;
        ready = ready;
        grows = ([], sym (append-nil out));
        out = ap (λ (l : List Out). out ++ l)
            (map-append (λ (one : Held). one.out) before (held_for setup n content done)
            ∙ ap₂ (λ (a b : List Out). a ++ b) (sym is) (outs-held setup n content done))
            ∙ sym (append_assoc out rest (outs_of_all setup n content done));
        process = done-follows file next content before done left has;
      }

  -- ## A group is written
  -- The first of the things that wait adds a record.
  first-more : (content : Content) (given : Given) (later : List Given) → WaitsForRecord setup n content (given ∷ later) → IsUp (with_given setup n content given)
  first-more content given later waits =
      ⊎_elim
      (λ same. let wrong : content.records ≡ content.records ++ waits.0 ∷ [] = sym same ∙ waits.1 in
      let long = ap (λ (l : List Record). length l) wrong in absurd (omega (arith, long, length-append content.records (waits.0 ∷ []))))
      (λ grows. grows.2) (given-either setup n content given)

  -- What waits is cut behind so many more records, and behind all that appends nothing after them.
  record CutAt (content : Content) (givens : List Given) (count : ℕ) : Type 0 where
    done : List Given
    left : List Given
    split : givens ≡ done ++ left
    long : length (with_all setup n content done).records ≡ length content.records + count
    up : IsUp (with_all setup n content done)
    first : WaitsForRecord setup n (with_all setup n content done) left

  -- The first of what waits adds a record, and then the next one, and so on.
  cut-at : (k : ℕ) (content : Content) (givens : List Given) → WaitsForRecord setup n content givens
      → length content.records + suc k ≤ length (with_all setup n content givens).records → CutAt content givens (suc k)
  cut-at k content [] waits enough = absurd (omega (arith, enough))
  cut-at zero content (given ∷ later) waits enough =
      let mid = with_given setup n content given in
      let parts = parted setup n mid later in
      let records : length (with_all setup n mid parts.quiet).records ≡ length (content.records ++ waits.0 ∷ []) = ap (λ (l : List Record). length l) (parts.still ∙ waits.1) in
      record {
        done = given ∷ parts.quiet;
        left = parts.left;
        split = ap (λ (l : List Given). given ∷ l) parts.split;
        long = omega (arith, records, length-append content.records (waits.0 ∷ []));
        up = all-up setup n mid parts.quiet (first-more content given later waits);
        first = parts.waits;
      }
  cut-at (suc k) content (given ∷ later) waits enough =
      let mid = with_given setup n content given in
      let parts = parted setup n mid later in
      let settled = with_all setup n mid parts.quiet in
      let records : length settled.records ≡ length (content.records ++ waits.0 ∷ []) = ap (λ (l : List Record). length l) (parts.still ∙ waits.1) in
      let longer : length settled.records ≡ length content.records + 1 = omega (arith, records, length-append content.records (waits.0 ∷ [])) in
      let all : with_all setup n mid later ≡ with_all setup n settled parts.left =
      ap (with_all setup n mid) parts.split ∙ with_all-append setup n mid parts.quiet parts.left in
      let rest = cut-at k settled parts.left parts.waits (omega (arith, enough, longer, ap (λ (c : Content). length c.records) all)) in
      let done : with_all setup n mid (parts.quiet ++ rest.done) ≡ with_all setup n settled rest.done = with_all-append setup n mid parts.quiet rest.done in
      record {
        done = given ∷ (parts.quiet ++ rest.done);
        left = rest.left;
        split =
            ap (λ (l : List Given). given ∷ l)
            (parts.split ∙ ap (λ (l : List Given). parts.quiet ++ l) rest.split ∙ sym (append_assoc parts.quiet rest.done rest.left));
        long = omega (arith, ap (λ (c : Content). length c.records) done, rest.long, longer);
        up = subst IsUp (sym done) rest.up;
        first = subst (λ (c : Content). WaitsForRecord setup n c rest.left) (sym done) rest.first;
      }

  -- What waits is cut behind the records that the contents of a group are, and behind all that appends nothing after them.
  pub record Cut (content : Content) (waiting : List Given) (stored group : Contents) : Type 0 where
    pub done : List Given
    pub left : List Given
    pub split : waiting ≡ done ++ left
    pub may : MayAllBeGiven setup n d asked content done
    pub allowed : MayAllBeGiven setup n d asked (with_all setup n content done) left
    pub spelled : AreWritten (with_all setup n content done).records (stored ++ group)
    pub up : IsUp (with_all setup n content done)
    pub first : WaitsForRecord setup n (with_all setup n content done) left

  module _ (file : List ℕ) (site : HostedState) (content : Content) (rest : List Out) (f : FollowsHosted setup d n asked file site content rest)
      (one : List ℕ) (others : Contents) (group : site.site.log.asked ≡ one ∷ others) where
    group-waits : length content.records + suc (length others) ≤ length (with_all setup n content f.waiting).records
    group-waits =
        let stored = written-length content.records site.site.log.stored f.stored in
        let all = written-length site.site.records (contents_of site.site.log) f.whole in
        let records = ap (λ (c : Content). length c.records) f.come in
        omega (
          arith,
          stored,
          all,
          records,
          ap (λ (l : Contents). length l) group,
          length-append site.site.log.stored (site.site.log.asked ++ site.site.log.pending),
          length-append site.site.log.asked site.site.log.pending,
        )

    pub cut-group : Cut content f.waiting site.site.log.stored (one ∷ others)
    cut-group =
        let at = cut-at (length others) content f.waiting f.first group-waits in
        let settled = with_all setup n content at.done in
        let may = may-parts setup n d asked content at.done at.left (subst (MayAllBeGiven setup n d asked content) at.split f.allowed) in
        let come : with_all setup n settled at.left ≡ now site =
        sym (with_all-append setup n content at.done at.left) ∙ sym (ap (with_all setup n content) at.split) ∙ f.come in
        let grown = all-grows setup n settled at.left in
        let rest_is : site.site.records ≡ settled.records ++ grown.0 = sym (ap (λ (c : Content). c.records) come) ∙ grown.1 in
        let contents : contents_of site.site.log ≡ (site.site.log.stored ++ one ∷ others) ++ site.site.log.pending =
        ap (λ (l : Contents). site.site.log.stored ++ (l ++ site.site.log.pending)) group ∙ sym (append_assoc site.site.log.stored (one ∷ others) site.site.log.pending) in
        let long : length settled.records ≡ length (site.site.log.stored ++ one ∷ others) =
        omega (arith, at.long, length-append site.site.log.stored (one ∷ others), written-length content.records site.site.log.stored f.stored) in
        record {
          done = at.done;
          left = at.left;
          split = at.split;
          may = may.0;
          allowed = may.1;
          spelled = written-front settled.records grown.0 (site.site.log.stored ++ one ∷ others) site.site.log.pending long
              (subst (AreWritten (settled.records ++ grown.0)) contents (subst (λ (l : List Record). AreWritten l (contents_of site.site.log)) rest_is f.whole));
          up = at.up;
          first = at.first;
        }

  module _ (file left : List ℕ) (site next : HostedState) (content : Content) (rest : List Out) (f : FollowsHosted setup d n asked file site content rest)
      (is_file : IsFile next.site.log left) (stands : Stands next) (one : StoresGroup site.site.log next.site.log)
      (is : next ≡ record site { site = record site.site { log = next.site.log } }) (same : contents_of next.site.log ≡ contents_of site.site.log) where
    cut : Cut content f.waiting site.site.log.stored (one.0 ∷ one.1.0)
    cut = cut-group file site content rest f one.0 one.1.0 one.1.1

    one-done : HasDone left next content f.ready cut.done cut.left
    one-done = record {
      is_file = is_file;
      stands = stands;
      me = ap (λ (h : HostedState). h.site.me) is ∙ f.me;
      catalog = ap (λ (h : HostedState). setup_of h.site.catalog) is ∙ f.catalog;
      surplus = ap (λ (h : HostedState). h.site.surplus) is ∙ f.surplus;
      stored = subst (AreWritten (with_all setup n content cut.done).records) (sym one.1.2) cut.spelled;
      whole = still-written site next is same f.whole;
      allowed = cut.allowed;
      first = cut.first;
      come = sym (ap (with_all setup n content) cut.split) ∙ f.come ∙ sym (ap now is);
      held = ap (λ (h : HostedState). h.held) is ∙ f.held ∙ ap (λ (l : List Given). f.ready ++ held_for setup n content l) cut.split;
      in_file = All-weaker (λ (it : Held). it.length ≤ stored_length site) (λ (it : Held). it.length ≤ stored_length next)
          (λ it le.
          let more : stored_length next ≡ size_of (site.site.log.stored ++ one.0 ∷ one.1.0) = ap size_of one.1.2 in
          omega (arith, le, more, sum_by-append (λ (c : List ℕ). 5 + length c) site.site.log.stored (one.0 ∷ one.1.0))) f.ready f.in_file;
      unopened = λ down. let wrong : Some cut.up.0 ≡ None = sym cut.up.1 ∙ down in cc;
    }

    pub becomes-written : (new : Station) → new ≡ record { file = left; hosted = Some next; let_out = (station_at d n).let_out; asked = asked } → Becomes setup d n content rest new
    becomes-written new here = done-becomes left next content rest f.ready cut.done cut.left new cut.may one-done f.rest_is here
