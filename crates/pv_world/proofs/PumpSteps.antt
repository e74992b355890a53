-- A pump, delivery by delivery, and what is left for it to do.
use Rattle.std.proofs.Common.{arith, ◌≡◌, ℕ, zero, suc, ◌+◌, ◌-◌, ◌<◌, ◌≤◌, ◌^◌, ◌/◌, ◌%◌, Bool, true, false, List, [], ◌∷◌, ◌++◌, map, length, get_or, Option, Some, None, append_assoc, refl, sym, ap, ap₂, subst, ◌∙◌}
use Rattle.std.specs.Prelude.{Result, Ok, Err, IsErrAnd, ◌==◌, ◌||◌, if◌then◌else◌}
use Rattle.std.specs.List.{position}
use Rattle.std.proofs.lemmas.Bool.Decides.{nat_tests}
use Rattle.std.proofs.lemmas.List.{append-nil, length-map}
use Rattle.std.proofs.lemmas.Option.{none-some}
use Rattle.pv_format.specs.Message.{Envelope, Message, lock, granted, denied, prepare, vote_yes, vote_no, outcome_reported, ask}
use Rattle.pv_format.specs.MessageSpelling.{SpellsEnvelope, kind_number}
use Rattle.pv_format.specs.RecordSpelling.{are_sure}
use Rattle.pv_base.specs.BigEndian.{IsNumber, big_endian}
use Rattle.pv_law_world.proofs.GrowthLemmas.{transition-grown}
use Rattle.pv_law_world.proofs.PumpLemmas.{IsLighter, delivery-lighter, more-fuel, none-left}
use Rattle.pv_law_world.specs.Pumps.{AreMarked, HasFewSites}
use Rattle.pv_law_world.proofs.AppendLemmas.{world_after-append}
use Rattle.pv_model.specs.Events.{deliver, pump}
use Rattle.pv_protocol.specs.Limit.{over_limit}
use Rattle.pv_protocol.specs.Lines as protocol
use Rattle.pv_protocol.specs.Pump.{deliveries, enough, next_fresh, weight, weight_left, with_fresh}
use Rattle.pv_protocol.specs.Run.{lines_of_transitions, transitions_of, world_after}
use Rattle.pv_protocol.specs.State.{Setup}
use Rattle.pv_protocol.specs.World as model
use Rattle.pv_protocol.specs.WorldStep.{Transition, transition_of}
use Rattle.pv_script.specs.declared.line.Line.{Line}
use Rattle.pv_site.specs.SiteState.{setup_of}
use Rattle.pv_world.proofs.MailWorld.{length-carried, next-fresh, over-stays}
use Rattle.pv_world.specs.Carry.{Carry}
use Rattle.pv_world.specs.Mail.{Posted}
use Rattle.pv_world.specs.Pumping.{is_over, one_less}
use Rattle.pv_world.specs.Stands.{Stands, StandsFor}
use Rattle.pv_world.specs.Steps.{IsSameBeside, MakesTransitions, lines_of}
use Rattle.pv_world.specs.declared.error.WorldError.{WorldError}
use Rattle.pv_world.specs.declared.error.WorldError.TheVariants.{SentLimit, NoMemory}
use Rattle.pv_world.specs.declared.world.World.{World}

-- Each message that was posted is marked.
pub stands-marked : (world : World) (is : model.World) → Stands world is → AreMarked is
stands-marked world is stands =
    sym (length-carried world.mail.posts is.sent stands.sent)
    ∙ (sym (length-map world.mail.posts (λ (post : Posted). post.fresh)) ∙ ap length stands.fresh)

-- How many deliveries a pump may make at most.
abbrev pub fuel_of : model.World → Option ℕ → ℕ
fuel_of is None = enough is
fuel_of is (Some most) = most

pub pump-deliveries : (setup : Setup) (is : model.World) (most : Option ℕ) → transitions_of setup is (pump most) ≡ deliveries (fuel_of is most) setup is
unfolding transitions_of
pump-deliveries setup is None = refl
pump-deliveries setup is (Some most) = refl

-- After the messages of deliveries the first one that passed the limit is still the first.
module _ (setup : Setup) (limit : ℕ) where
  transition-over : (is : model.World) (n passed : ℕ) → over_limit limit is ≡ Some passed → over_limit limit (transition_of setup is (deliver n)).world ≡ Some passed
  unfolding over_limit
  transition-over is n passed over =
      let grown = (transition-grown setup is (deliver n)).sent in
      subst (λ (sent : List Envelope). over_limit limit (record is { sent = sent }) ≡ Some passed) (sym grown.1) (over-stays limit 0 is.sent grown.0 passed over)

  next-over : (fuel : ℕ) (is : model.World) (passed : ℕ) → over_limit limit is ≡ Some passed
      → ((next : model.World) → over_limit limit next ≡ Some passed → over_limit limit (world_after next (deliveries fuel setup next)) ≡ Some passed)
      → (next : Option ℕ)
      → over_limit limit (world_after is (with_fresh next (λ n. let transition = transition_of setup is (deliver n) in transition ∷ deliveries fuel setup transition.world))) ≡ Some passed
  next-over fuel is passed over later None = over
  next-over fuel is passed over later (Some n) = later (transition_of setup is (deliver n)).world (transition-over is n passed over)

  deliveries-over : (fuel : ℕ) (is : model.World) (passed : ℕ) → over_limit limit is ≡ Some passed → over_limit limit (world_after is (deliveries fuel setup is)) ≡ Some passed
  deliveries-over zero is passed over = over
  deliveries-over (suc fuel) is passed over = next-over fuel is passed over (λ next next_over. deliveries-over fuel next passed next_over) (next_fresh is)

-- The deliveries of a pump that were made so far, and those that are left.
pub record HasPumped (entry now : World) (before after : List Line) (most left : Option ℕ) (is : model.World) : Type 0 where
  pub now_is : model.World
  pub done : List Transition
  pub stands : StandsFor now now_is
  pub same : IsSameBeside entry now
  pub lines : lines_of after ≡ lines_of before ++ lines_of_transitions done
  pub ends : world_after is done ≡ now_is
  pub whole : deliveries (fuel_of is most) (setup_of entry.catalog) is ≡ done ++ deliveries (fuel_of now_is left) (setup_of entry.catalog) now_is

pub none-pumped : (entry : World) (before : List Line) (most : Option ℕ) (is : model.World) → StandsFor entry is → HasPumped entry entry before before most most is
none-pumped entry before most is stands = record {
  now_is = is;
  done = [];
  stands = stands;
  same = record { catalog = refl; limit = refl };
  lines = sym (append-nil (lines_of before));
  ends = refl;
  whole = refl;
}

lines-append : (front back : List Transition) → lines_of_transitions (front ++ back) ≡ lines_of_transitions front ++ lines_of_transitions back
lines-append [] back = refl
lines-append (transition ∷ front) back =
    ap (λ (lines : List protocol.Line). transition.lines ++ lines) (lines-append front back)
    ∙ sym (append_assoc transition.lines (lines_of_transitions front) (lines_of_transitions back))

-- One more delivery.
module _ (setup : Setup) (few : HasFewSites setup.catalog) (is : model.World) (marked : AreMarked is) (n : ℕ) (next : next_fresh is ≡ Some n) where
  abbrev Next : Transition
  Next = transition_of setup is (deliver n)

  some-left : (fuel : ℕ) → enough is ≤ fuel → (count : ℕ) → fuel ≡ count → count ≡ 0 → ⊥
  some-left fuel most count same zero_is =
      none-some _ (sym (none-left setup few 0 is marked (omega (arith, most, same, zero_is))) ∙ next)

  one-more : (fuel : ℕ) → deliveries (suc fuel) setup is ≡ Next ∷ deliveries fuel setup Next.world
  one-more fuel =
      ap (λ (found : Option ℕ). with_fresh found (λ m. let transition = transition_of setup is (deliver m) in transition ∷ deliveries fuel setup transition.world)) next

  -- Where all are delivered, what was enough before is enough after.
  enough-left : (fuel : ℕ) → enough is ≡ fuel → deliveries fuel setup is ≡ Next ∷ deliveries (enough Next.world) setup Next.world
  enough-left zero is_zero = absurd (some-left 0 (omega (arith, is_zero)) 0 refl refl)
  enough-left (suc fuel) is_fuel =
      let lighter : IsLighter (enough is) Next.world = delivery-lighter setup few is marked n next in
      let less : enough Next.world < enough is = lighter.less in
      one-more fuel
      ∙ ap (λ (rest : List Transition). Next ∷ rest)
      (subst (λ (count : ℕ). deliveries count setup Next.world ≡ deliveries (enough Next.world) setup Next.world) (omega (arith, less, is_fuel))
      (more-fuel setup few (enough Next.world) (fuel - enough Next.world) Next.world lighter.marked (omega arith)))

  pub next-left : (left : Option ℕ) → (left ≡ Some 0 → ⊥) → deliveries (fuel_of is left) setup is ≡ Next ∷ deliveries (fuel_of Next.world (one_less left)) setup Next.world
  next-left None some = enough-left (enough is) refl
  next-left (Some zero) some = absurd (some refl)
  next-left (Some (suc fuel)) some = subst (λ (count : ℕ). deliveries (suc fuel) setup is ≡ Next ∷ deliveries count setup Next.world) (omega arith) (one-more fuel)

  pub next-less : enough Next.world < enough is
  next-less = (delivery-lighter setup few is marked n next).less

module _ (entry now new : World) (before mid after : List Line) (most left : Option ℕ) (is : model.World) (few : HasFewSites entry.catalog)
    (pumped : HasPumped entry now before mid most left is) (n : ℕ) (next : next_fresh pumped.now_is ≡ Some n) (some : left ≡ Some 0 → ⊥) where
  abbrev Delivery : Transition
  Delivery = transition_of (setup_of now.catalog) pumped.now_is (deliver n)

  catalogs : now.catalog ≡ entry.catalog
  catalogs = pumped.same.catalog

  all-next : deliveries (fuel_of is most) (setup_of entry.catalog) is
      ≡ (pumped.done ++ Delivery ∷ []) ++ deliveries (fuel_of Delivery.world (one_less left)) (setup_of entry.catalog) Delivery.world
  all-next =
      pumped.whole
      ∙ (ap (λ (rest : List Transition). pumped.done ++ rest)
      (subst (λ c. deliveries (fuel_of pumped.now_is left) (setup_of entry.catalog) pumped.now_is
      ≡ transition_of (setup_of c) pumped.now_is (deliver n)
      ∷ deliveries (fuel_of (transition_of (setup_of c) pumped.now_is (deliver n)).world (one_less left)) (setup_of entry.catalog) (transition_of (setup_of c) pumped.now_is (deliver n)).world)
      (sym catalogs) (next-left (setup_of entry.catalog) few pumped.now_is (stands-marked now pumped.now_is pumped.stands.stands) n next left some))
      ∙ sym (append_assoc pumped.done (Delivery ∷ []) (deliveries (fuel_of Delivery.world (one_less left)) (setup_of entry.catalog) Delivery.world)))

  next-ends : world_after is (pumped.done ++ Delivery ∷ []) ≡ Delivery.world
  next-ends = world_after-append is pumped.done (Delivery ∷ [])

  pub one-pumped : {X : Type 0} (x : X) → MakesTransitions now new mid after pumped.now_is (Delivery ∷ []) (Ok x) → HasPumped entry new before after most (one_less left) is
  one-pumped x makes = record {
    now_is = Delivery.world;
    done = pumped.done ++ Delivery ∷ [];
    stands = makes.0;
    same = record { catalog = makes.1.catalog ∙ pumped.same.catalog; limit = makes.1.limit ∙ pumped.same.limit };
    lines =
        makes.2
        ∙ (ap (λ (lines : List protocol.Line). lines ++ lines_of_transitions (Delivery ∷ [])) pumped.lines
        ∙ (append_assoc (lines_of before) (lines_of_transitions pumped.done) (lines_of_transitions (Delivery ∷ []))
        ∙ ap (λ (lines : List protocol.Line). lines_of before ++ lines) (sym (lines-append pumped.done (Delivery ∷ [])))));
    ends = next-ends;
    whole = all-next;
  }

  pub over-pumped : (X : Type 0) (error : WorldError) → MakesTransitions {X = X} now new mid after pumped.now_is (Delivery ∷ []) (Err error)
      → MakesTransitions {X = X} entry new before after is (deliveries (fuel_of is most) (setup_of entry.catalog) is) (Err error)
  over-pumped X (SentLimit total) over =
      subst (λ (limit : ℕ). over_limit limit (world_after is (deliveries (fuel_of is most) (setup_of entry.catalog) is)) ≡ Some total) pumped.same.limit
      (subst (λ (transitions : List Transition). over_limit now.mail.limit (world_after is transitions) ≡ Some total) (sym all-next)
      (subst (λ (end : model.World). over_limit now.mail.limit end ≡ Some total)
      (sym (world_after-append is (pumped.done ++ Delivery ∷ []) (deliveries (fuel_of Delivery.world (one_less left)) (setup_of entry.catalog) Delivery.world)
      ∙ ap (λ (end : model.World). world_after end (deliveries (fuel_of Delivery.world (one_less left)) (setup_of entry.catalog) Delivery.world)) next-ends))
      (deliveries-over (setup_of entry.catalog) now.mail.limit (fuel_of Delivery.world (one_less left)) Delivery.world total over)))
  over-pumped X NoMemory over = tt

-- The pump is over: no message is fresh, or as many were delivered as may be.
none-delivered : (setup : Setup) (fuel : ℕ) (is : model.World) → next_fresh is ≡ None → deliveries fuel setup is ≡ []
none-delivered setup zero is none = refl
none-delivered setup (suc fuel) is none =
    ap (λ (found : Option ℕ). with_fresh found (λ n. let transition = transition_of setup is (deliver n) in transition ∷ deliveries fuel setup transition.world)) none

module _ (entry now : World) (before after : List Line) (most left : Option ℕ) (is : model.World) (pumped : HasPumped entry now before after most left is) where
  pumped-all : {X : Type 0} (x : X) → deliveries (fuel_of pumped.now_is left) (setup_of entry.catalog) pumped.now_is ≡ []
      → MakesTransitions entry now before after is (deliveries (fuel_of is most) (setup_of entry.catalog) is) (Ok x)
  pumped-all x none =
      subst (λ (transitions : List Transition). MakesTransitions entry now before after is transitions (Ok x))
      (sym (pumped.whole ∙ (ap (λ (rest : List Transition). pumped.done ++ rest) none ∙ append-nil pumped.done)))
      (subst (StandsFor now) (sym pumped.ends) pumped.stands, pumped.same, pumped.lines)

  pub pumped-fresh : {X : Type 0} (x : X) → next_fresh pumped.now_is ≡ None → MakesTransitions entry now before after is (deliveries (fuel_of is most) (setup_of entry.catalog) is) (Ok x)
  pumped-fresh x none = pumped-all x (none-delivered (setup_of entry.catalog) (fuel_of pumped.now_is left) pumped.now_is none)

  pub pumped-most : {X : Type 0} (x : X) → left ≡ Some 0 → MakesTransitions entry now before after is (deliveries (fuel_of is most) (setup_of entry.catalog) is) (Ok x)
  pumped-most x none = pumped-all x (ap (λ (l : Option ℕ). deliveries (fuel_of pumped.now_is l) (setup_of entry.catalog) pumped.now_is) none)

-- What is left to deliver, as the bytes say it.

-- the weight of a message of this kind
abbrev pub kind_weight : ℕ → ℕ
kind_weight kind =
    if kind == 1 then 17 ^ 4 else
    (if kind == 2 || (kind == 3 || kind == 18) then 17 ^ 3 else
    (if kind == 4 || kind == 20 then 17 ^ 2 else
    (if kind == 7 then 1 else 17)))

-- the weights of the fresh messages, by the first byte of each
abbrev pub mail_weight : List Posted → ℕ
mail_weight [] = 0
mail_weight (post ∷ posts) = (if post.fresh then kind_weight (get_or post.bytes 0 0) else 0) + mail_weight posts

one-digit : (number : ℕ) → number < 256 ^ 1 → number / 256 ^ 0 % 256 ≡ number
one-digit number fits = omega arith

first-byte : (number : ℕ) (front rest bytes : List ℕ) → bytes ≡ front ++ rest → IsNumber 1 number front → get_or bytes 0 0 ≡ number
unfolding big_endian
first-byte number front rest bytes whole is =
    ap (λ (b : List ℕ). get_or b 0 0) (whole ∙ ap (λ (f : List ℕ). f ++ rest) is.spelled) ∙ one-digit number is.fits

-- of the two kinds of a message that has values
of-both : (sure : Bool) (own other weighs : ℕ) → kind_weight own ≡ weighs → kind_weight other ≡ weighs → kind_weight (if sure then own else other) ≡ weighs
of-both true own other weighs first second = first
of-both false own other weighs first second = second

message-weight : (message : Message) → kind_weight (kind_number message) ≡ weight message
message-weight (lock txn wants) = refl
message-weight (granted txn grant values) = of-both (are_sure values) 2 18 (17 ^ 3) refl refl
message-weight (denied txn item holder) = refl
message-weight (prepare txn grant writes) = of-both (are_sure writes) 4 20 (17 ^ 2) refl refl
message-weight (vote_yes txn) = refl
message-weight (vote_no txn cause) = refl
message-weight (outcome_reported txn commits) = refl
message-weight (ask txn) = refl

weight-of : (envelope : Envelope) (bytes : List ℕ) → SpellsEnvelope envelope bytes → kind_weight (get_or bytes 0 0) ≡ weight envelope.message
weight-of envelope bytes spells =
    ap kind_weight (first-byte (kind_number envelope.message) spells.front spells.back bytes spells.whole spells.first) ∙ message-weight envelope.message

by-mark : (mark : Bool) (envelope : Envelope) (weighs left : ℕ) (sent : List Envelope) (marks : List Bool) → weighs ≡ weight envelope.message → left ≡ weight_left sent marks
    → (if mark then weighs else 0) + left ≡ weight_left (envelope ∷ sent) (mark ∷ marks)
by-mark true envelope weighs left sent marks is later = ap₂ (λ (n m : ℕ). n + m) is later
by-mark false envelope weighs left sent marks is later = omega (arith, later)

pub mail-weight : (posts : List Posted) (sent : List Envelope) → Carry posts sent → mail_weight posts ≡ weight_left sent (map (λ (post : Posted). post.fresh) posts)
mail-weight [] [] carry = refl
mail-weight [] (envelope ∷ sent) carry = absurd carry
mail-weight (post ∷ posts) [] carry = absurd carry
mail-weight (post ∷ posts) (envelope ∷ sent) carry =
    by-mark post.fresh envelope (kind_weight (get_or post.bytes 0 0)) (mail_weight posts) sent (map (λ (p : Posted). p.fresh) posts)
    (weight-of envelope post.bytes carry.1) (mail-weight posts sent carry.2)

pub stands-weight : (world : World) (is : model.World) → Stands world is → mail_weight world.mail.posts ≡ enough is
stands-weight world is stands =
    mail-weight world.mail.posts is.sent stands.sent ∙ ap (λ (marks : List Bool). weight_left is.sent marks) stands.fresh

-- The least fresh message, in memory and in the world.
pub stands-next : (world : World) (is : model.World) (found : Option ℕ) → Stands world is → found ≡ position (λ (post : Posted). post.fresh) world.mail.posts
    → next_fresh is ≡ found
stands-next world is found stands same =
    ap (position (λ (fresh : Bool). fresh)) (sym stands.fresh) ∙ (sym (next-fresh world.mail.posts) ∙ sym same)

-- The catalog of a world in memory has few sites.
pub few-sites : (world : World) (is : model.World) → StandsFor world is → HasFewSites world.catalog
few-sites world is stands = record { few = stands.range.sites; homes = stands.range.homes }

pub over-zero : (left : Option ℕ) → is_over left ≡ true → left ≡ Some 0
over-zero None is = absurd (let wrong : ⊥ = cc in wrong)
over-zero (Some zero) is = refl
over-zero (Some (suc most)) is = absurd (grind (arith, nat_tests, is))

pub going-on : (left : Option ℕ) → is_over left ≡ false → left ≡ Some 0 → ⊥
going-on left is zero_left = let wrong : true ≡ false = sym (ap is_over zero_left) ∙ is in absurd (let w : ⊥ = cc in w)

-- An error that came of another is that one.
pub makes-result : (X : Type 0) (old new : World) (before after : List Line) (is : model.World) (transitions : List Transition) (result : Result X WorldError) (error : WorldError)
    → IsErrAnd result (λ e. e ≡ error) → MakesTransitions {X = X} old new before after is transitions (Err error) → MakesTransitions old new before after is transitions result
makes-result X old new before after is transitions (Ok x) error same makes = absurd same
makes-result X old new before after is transitions (Err e) error same makes =
    subst (λ (w : WorldError). MakesTransitions {X = X} old new before after is transitions (Err w)) (sym same) makes
