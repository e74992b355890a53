-- A proposal that nothing disturbs, and after which all messages are delivered, is settled.
use Rattle.std.proofs.Common.{◌≡◌, ◌≢◌, ◌⊎◌, ⊎_elim, ℕ, zero, suc, ◌+◌, ◌<◌, ◌≤◌, Bool, true, false, Option, Some, None, List, [], ◌∷◌, ◌++◌, length, map, set, get_or, inl, inr, refl, sym, ap, subst, ◌∙◌, arith}
use Rattle.std.proofs.lemmas.Bool.{cases_eq}
use Rattle.std.specs.Prelude.{◌&&◌, nat_lt, position, slice_get}
use Rattle.std.specs.List.{Contains}
use Rattle.std.proofs.lemmas.Grind.{common_steps}
use Rattle.std.proofs.lemmas.List.{append-nil, get_or-set_same, get_or-set_other, length-append, length-map, length-set}
use Rattle.pv_base.proofs.ContainsLemmas.{Contains-behind, Contains-first}
use Rattle.pv_law_decisions.specs.Lines.{Line}
use Rattle.pv_law_decisions.specs.Promises.{IsUp}
use Rattle.pv_law_decisions.specs.Runs.{Delivers}
use Rattle.pv_law_decisions.specs.Scene as scenes
use Rattle.pv_law_decisions.specs.Scene.{Scene, answer_of, arm_at, at_first, attempted, completed, ending_by, memory_at, next_fresh, reached_by, with_done}
use Rattle.pv_law_quorum.specs.Decider as rules
use Rattle.pv_law_quorum.specs.Decider.{Setup, Answer, Entry, Input, Message, prepare, promise, accept, accepted, propose, receive, decided, spent, full}
use Rattle.pv_law_quorum.specs.Undisturbed.{IsDelivered, after_all}
use Rattle.pv_law_quorum.specs.World as law
use Rattle.pv_law_quorum.specs.World.{World, Ending, Envelope, Event, whole, broken, proposal, delivery, after_event, after, decider_at, ended, no_decider, opening, records_at, IsFit}
use Rattle.pv_law_quorum.proofs.EventLemmas.{up-listed}
use Rattle.pv_moored.specs.Reached.{Reached, waits, fires}
use Rattle.pv_protocol.specs.Arms.{is_kept}

up-or-down : (memory : Option (List Entry)) → ((entries : List Entry) × (memory ≡ Some entries)) ⊎ (memory ≡ None)
up-or-down None = inr refl
up-or-down (Some entries) = inl (entries, refl)

not-both : {P : Type 0} (memory : Option (List Entry)) (entries : List Entry) → memory ≡ None → memory ≡ Some entries → P
not-both memory entries none some = let wrong : None ≡ Some entries = sym none ∙ some in absurd (let never : ⊥ = cc in never)

-- What was delivered, one more delivery later.

delivered-front : (setup : Setup) (envelope : Envelope) (numbers : List ℕ) (number : ℕ) (w : World) → IsDelivered setup envelope w numbers → IsDelivered setup envelope w (numbers ++ number ∷ [])
delivered-front setup envelope [] number w is = absurd is
delivered-front setup envelope (first ∷ numbers) number w (inl now) = inl now
delivered-front setup envelope (first ∷ numbers) number w (inr later) = inr (delivered-front setup envelope numbers number (after_event setup w (delivery first whole)) later)

delivered-last : (setup : Setup) (envelope : Envelope) (numbers : List ℕ) (number : ℕ) (w : World) → slice_get (after_all setup w numbers).sent number ≡ Some envelope
    → IsDelivered setup envelope w (numbers ++ number ∷ [])
delivered-last setup envelope [] number w is = inl is
delivered-last setup envelope (first ∷ numbers) number w is = inr (delivered-last setup envelope numbers number (after_event setup w (delivery first whole)) is)

after-last : (setup : Setup) (numbers : List ℕ) (number : ℕ) (w : World) → after_all setup w (numbers ++ number ∷ []) ≡ after_event setup (after_all setup w numbers) (delivery number whole)
after-last setup [] number w = refl
after-last setup (first ∷ numbers) number w = after-last setup numbers number (after_event setup w (delivery first whole))

-- Places of a list.

pub listed-at : {X : Type 0} (xs : List X) (x : X) (k : ℕ) → k < length xs → get_or xs k x ≡ x → slice_get xs k ≡ Some x
listed-at [] x k small is = absurd (omega (arith, small))
listed-at (y ∷ ys) x zero small is = ap Some is
listed-at (y ∷ ys) x (suc k) small is = listed-at ys x k (omega (arith, small)) is

pub at-listed : {X : Type 0} (xs : List X) (k : ℕ) (x : X) → slice_get xs k ≡ Some x → Contains xs x
at-listed [] k x is = absurd (let wrong : ⊥ = cc in wrong)
at-listed (y ∷ ys) zero x is = let told : Some y ≡ Some x = is in let same : y ≡ x = cc in subst (Contains (y ∷ ys)) same (Contains-first y ys)
at-listed (y ∷ ys) (suc k) x is = Contains-behind y ys x (at-listed ys k x is)

pub at-front : {X : Type 0} (xs ys : List X) (k : ℕ) (x : X) → k < length xs → slice_get (xs ++ ys) k ≡ Some x → slice_get xs k ≡ Some x
at-front [] ys k x small is = absurd (omega (arith, small))
at-front (y ∷ xs) ys zero x small is = is
at-front (y ∷ xs) ys (suc k) x small is = at-front xs ys k x (omega (arith, small)) is

marked-true : {X : Type 0} (xs : List X) (k : ℕ) → get_or (map (λ x. true) xs) k true ≡ true
marked-true [] k = refl
marked-true (x ∷ xs) zero = refl
marked-true (x ∷ xs) (suc k) = marked-true xs k

mark-behind : {X : Type 0} (marks : List Bool) (xs : List X) (k : ℕ) → length marks ≤ k → get_or (marks ++ map (λ x. true) xs) k true ≡ true
mark-behind [] xs k past = marked-true xs k
mark-behind (mark ∷ marks) xs zero past = absurd (omega (arith, past))
mark-behind (mark ∷ marks) xs (suc k) past = mark-behind marks xs k (omega (arith, past))

mark-front : {X : Type 0} (marks : List Bool) (xs : List X) (k : ℕ) → k < length marks → get_or (marks ++ map (λ x. true) xs) k true ≡ get_or marks k true
mark-front [] xs k small = absurd (omega (arith, small))
mark-front (mark ∷ marks) xs zero small = refl
mark-front (mark ∷ marks) xs (suc k) small = mark-front marks xs k (omega (arith, small))

-- what isn't marked stands at the front
pub front-by : {X : Type 0} (marks : List Bool) (xs : List X) (k : ℕ) → get_or (marks ++ map (λ x. true) xs) k true ≡ false → k < length marks
front-by [] xs k is = let wrong : true ≡ false = sym (marked-true xs k) ∙ is in absurd (let never : ⊥ = cc in never)
front-by (mark ∷ marks) xs zero is = omega arith
front-by (mark ∷ marks) xs (suc k) is = let rest = front-by marks xs k is in omega (arith, rest)

unset-other : (marks : List Bool) (n k : ℕ) → k ≢ n → get_or (set marks n false) k true ≡ get_or marks k true
unset-other marks n k apart = get_or-set_other marks n k false true apart

-- What is sent and marked anew.
pub record Sends (scene next : Scene) (marks : List Bool) : Type 0 where
  pub more : List Envelope
  pub sent : next.world.sent ≡ scene.world.sent ++ more
  pub fresh : next.fresh ≡ marks ++ map (λ envelope. true) more

module _ (setup : Setup) where
  -- A step in which nothing fires.
  pub record IsQuiet (scene next : Scene) (event : Event) (marks : List Bool) : Type 0 where
    pub world : next.world ≡ after_event setup scene.world event
    pub sends : Sends scene next marks

  marks-of : (sends : List rules.Outgoing) (n : ℕ) → map (λ (sent : rules.Outgoing). true) sends ≡ map (λ (envelope : Envelope). true) (law.from_decider n sends)
  marks-of [] n = refl
  marks-of (send ∷ sends) n = ap (λ (marks : List Bool). true ∷ marks) (marks-of sends n)

  -- Where what is armed fires, the decider is down.
  down-broken : (w : World) (n : ℕ) (answer : Answer) (recorded : Bool) (entries : List Entry) → (decider_at w n).memory ≡ Some entries
      → (decider_at (ended w n answer (broken recorded)) n).memory ≡ None
  down-broken w n answer recorded entries some = ap (λ (d : law.Decider). d.memory) (get_or-set_same w.deciders n _ no_decider (up-listed w.deciders n entries some))

  -- the steps that a decider which is up makes of an input, by how they end
  abbrev Makes : Scene → ℕ → Answer → (Ending → Event) → Type 0
  Makes scene n answer made = (ending : Ending) → after_event setup scene.world (made ending) ≡ ended scene.world n answer ending

  quiet-attempted : (scene : Scene) (n : ℕ) (answer : Answer) (made : Ending → Event) (entries : List Entry) → Makes scene n answer made → memory_at scene n ≡ Some entries → (r : Reached)
      → IsUp (attempted setup scene n answer made r).1 n → IsQuiet scene (attempted setup scene n answer made r).1 (made whole) scene.fresh
  quiet-attempted scene n answer made entries makes some (waits rest) up = record {
    world = refl;
    sends = record {
      more = law.from_decider n answer.sends;
      sent = ap (λ (w : World). w.sent) (makes whole);
      fresh = ap (λ (marks : List Bool). scene.fresh ++ marks) (marks-of answer.sends n);
    };
  }
  quiet-attempted scene n answer made entries makes some (fires arm) up =
      not-both (memory_at (attempted setup scene n answer made (fires arm)).1 n) up.0
      (ap (λ (w : World). (decider_at w n).memory) (makes (ending_by arm)) ∙ down-broken scene.world n answer (nat_lt 2 arm.left && is_kept arm.mode) entries some) up.1

  pub quiet-given : (scene : Scene) (n : ℕ) (input : Input) (made : Ending → Event) (memory : Option (List Entry))
      → ((ending : Ending) → after_event setup scene.world (made ending) ≡ law.given setup scene.world n input ending memory) → memory_at scene n ≡ memory
      → (IsUp scene n → IsUp (scenes.given setup scene n input made memory).1 n)
      → IsQuiet scene (scenes.given setup scene n input made memory).1 (made whole) scene.fresh
  quiet-given scene n input made None is same stays = record {
    world = sym (is whole);
    sends = record { more = []; sent = sym (append-nil scene.world.sent); fresh = sym (append-nil scene.fresh) };
  }
  quiet-given scene n input made (Some entries) is same stays =
      let answer : Answer = answer_of setup scene n input entries in
      quiet-attempted scene n answer made entries is same (reached_by answer.appended (arm_at scene n)) (stays (entries, same))

  -- A step starts nobody.

  apart-down : (scene : Scene) (n : ℕ) (answer : Answer) (made : Ending → Event) → Makes scene n answer made → (k : ℕ) → k ≢ n → memory_at scene k ≡ None → (ending : Ending)
      → (decider_at (after_event setup scene.world (made ending)) k).memory ≡ None
  apart-down scene n answer made makes k apart down whole =
      ap (λ (w : World). (decider_at w k).memory) (makes whole) ∙ (ap (λ (d : law.Decider). d.memory) (get_or-set_other scene.world.deciders n k _ no_decider apart) ∙ down)
  apart-down scene n answer made makes k apart down (broken recorded) =
      ap (λ (w : World). (decider_at w k).memory) (makes (broken recorded)) ∙ (ap (λ (d : law.Decider). d.memory) (get_or-set_other scene.world.deciders n k _ no_decider apart) ∙ down)

  attempted-down : (scene : Scene) (n : ℕ) (answer : Answer) (made : Ending → Event) → Makes scene n answer made → (k : ℕ) → k ≢ n → memory_at scene k ≡ None → (r : Reached)
      → memory_at (attempted setup scene n answer made r).1 k ≡ None
  attempted-down scene n answer made makes k apart down (waits rest) = apart-down scene n answer made makes k apart down whole
  attempted-down scene n answer made makes k apart down (fires arm) = apart-down scene n answer made makes k apart down (ending_by arm)

  pub given-down : (scene : Scene) (n : ℕ) (input : Input) (made : Ending → Event) (memory : Option (List Entry))
      → ((ending : Ending) → after_event setup scene.world (made ending) ≡ law.given setup scene.world n input ending memory) → memory_at scene n ≡ memory
      → (k : ℕ) → memory_at scene k ≡ None → memory_at (scenes.given setup scene n input made memory).1 k ≡ None
  given-down scene n input made None is same k down = down
  given-down scene n input made (Some entries) is same k down =
      let answer : Answer = answer_of setup scene n input entries in
      ⊎_elim (λ one. not-both (memory_at scene n) entries (subst (λ (j : ℕ). memory_at scene j ≡ None) one down) same)
      (λ apart. attempted-down scene n answer made is k apart down (reached_by answer.appended (arm_at scene n))) (cases_eq k n)

  taken-down : (scene : Scene) (number : ℕ) (found : Option Envelope) → slice_get scene.world.sent number ≡ found → (k : ℕ) → memory_at scene k ≡ None
      → memory_at (scenes.taken setup scene number found).1 k ≡ None
  taken-down scene number None is k down = down
  taken-down scene number (Some envelope) is k down =
      given-down (with_done scene number) envelope.to (receive envelope.from envelope.message) (λ ending. delivery number ending) (memory_at scene envelope.to)
      (λ ending. ap (λ (o : Option Envelope). law.delivered setup scene.world ending o) is) refl k down

  pub pump-down : (begun : Scene) (k : ℕ) (lines : List Line) (scene : Scene) → Delivers setup begun k lines scene → (j : ℕ) → memory_at begun j ≡ None → memory_at scene j ≡ None
  pump-down begun k lines scene Delivers.none j down = down
  pump-down begun k lines scene (Delivers.more before said mid number delivers next) j down =
      taken-down mid number (slice_get mid.world.sent number) refl j (pump-down begun before said mid delivers j down)

  -- Who is up now was up before, where who was down before is down now.
  pub was-up : (before now : Scene) (k : ℕ) → (memory_at before k ≡ None → memory_at now k ≡ None) → IsUp now k → IsUp before k
  was-up before now k stays up = ⊎_elim (λ some. some) (λ none. not-both (memory_at now k) up.0 (stays none) up.1) (up-or-down (memory_at before k))

  quiet-taken : (scene : Scene) (number : ℕ) (found : Option Envelope) → slice_get scene.world.sent number ≡ found → number < length scene.world.sent
      → ((k : ℕ) → IsUp scene k → IsUp (scenes.taken setup scene number found).1 k)
      → IsQuiet scene (scenes.taken setup scene number found).1 (delivery number whole) (set scene.fresh number false)
  quiet-taken scene number None is small stay = absurd (missing scene.world.sent number small is) where
    missing : {X : Type 0} (xs : List X) (k : ℕ) → k < length xs → slice_get xs k ≡ None → ⊥
    missing [] k below none = absurd (omega (arith, below))
    missing (x ∷ xs) zero below none = let wrong : Some x ≡ None = none in let never : ⊥ = cc in never
    missing (x ∷ xs) (suc k) below none = missing xs k (omega (arith, below)) none
  quiet-taken scene number (Some envelope) is small stay =
      let quiet = quiet-given (with_done scene number) envelope.to (receive envelope.from envelope.message) (λ ending. delivery number ending) (memory_at scene envelope.to)
      (λ ending. ap (λ (o : Option Envelope). law.delivered setup scene.world ending o) is) refl (stay envelope.to) in
      record { world = quiet.world; sends = record { more = quiet.sends.more; sent = quiet.sends.sent; fresh = quiet.sends.fresh } }

  -- All that was delivered since this world, where the messages that were done before are old ones.
  module _ (begun : Scene) (since : World) (Old : Envelope → Type 0) (same : (numbers : List ℕ) → (after_all setup begun.world numbers).sent ≡ (after_all setup since numbers).sent)
      (long : length begun.fresh ≡ length begun.world.sent)
      (old : (i : ℕ) (envelope : Envelope) → slice_get begun.world.sent i ≡ Some envelope → get_or begun.fresh i true ≡ false → Old envelope) where
    pub record Pumped (scene : Scene) : Type 0 where
      pub numbers : List ℕ
      pub world : scene.world ≡ after_all setup begun.world numbers
      pub long_is : length scene.fresh ≡ length scene.world.sent
      pub done : (i : ℕ) (envelope : Envelope) → slice_get scene.world.sent i ≡ Some envelope → get_or scene.fresh i true ≡ false → Old envelope ⊎ IsDelivered setup envelope since numbers

    pumped-more : (scene : Scene) (number : ℕ) → ((k : ℕ) → IsUp scene k → IsUp (scenes.delivered setup scene number).1 k) → Pumped scene → next_fresh scene ≡ Some number
        → Pumped (scenes.delivered setup scene number).1
    pumped-more scene number stay pumped next =
        let small : number < length scene.fresh = fresh-small scene.fresh number next in
        let quiet = quiet-taken scene number (slice_get scene.world.sent number) refl (omega (arith, small, pumped.long_is)) stay in
        record {
          numbers = pumped.numbers ++ number ∷ [];
          world = quiet.world ∙ ap (λ (w : World). after_event setup w (delivery number whole)) pumped.world ∙ sym (after-last setup pumped.numbers number begun.world);
          long_is =
              ap length quiet.sends.fresh ∙ length-append (set scene.fresh number false) (map (λ envelope. true) quiet.sends.more)
              ∙ omega-long (length (set scene.fresh number false)) (length (map (λ (envelope : Envelope). true) quiet.sends.more)) (length scene.world.sent) (length quiet.sends.more)
              (length-set scene.fresh number false ∙ pumped.long_is) (length-map quiet.sends.more (λ (envelope : Envelope). true))
              ∙ sym (ap length quiet.sends.sent ∙ length-append scene.world.sent quiet.sends.more);
          done = λ i envelope there marked. by i envelope quiet.sends
              (subst (λ (sent : List Envelope). slice_get sent i ≡ Some envelope) quiet.sends.sent there)
              (subst (λ (marks : List Bool). get_or marks i true ≡ false) quiet.sends.fresh marked);
        } where
          fresh-small : (marks : List Bool) (k : ℕ) → position (λ mark. mark) marks ≡ Some k → k < length marks
          fresh-small marks k is = grind (arith, common_steps, is)

          omega-long : (a b c d : ℕ) → a ≡ c → b ≡ d → a + b ≡ c + d
          omega-long a b c d one two = omega (arith, one, two)

          by : (i : ℕ) (envelope : Envelope) (sends : Sends scene (scenes.delivered setup scene number).1 (set scene.fresh number false))
              → slice_get (scene.world.sent ++ sends.more) i ≡ Some envelope → get_or (set scene.fresh number false ++ map (λ envelope. true) sends.more) i true ≡ false
              → Old envelope ⊎ IsDelivered setup envelope since (pumped.numbers ++ number ∷ [])
          by i envelope sends there marked = early-or (cases_eq i number) where
            within : i < length (set scene.fresh number false)
            within = front-by (set scene.fresh number false) sends.more i marked

            there-now : slice_get scene.world.sent i ≡ Some envelope
            there-now = at-front scene.world.sent sends.more i envelope (omega (arith, within, length-set scene.fresh number false, pumped.long_is)) there

            early-or : (i ≡ number) ⊎ (i ≢ number) → Old envelope ⊎ IsDelivered setup envelope since (pumped.numbers ++ number ∷ [])
            early-or (inl is) =
                inr (delivered-last setup envelope pumped.numbers number since
                (subst (λ (k : ℕ). slice_get (after_all setup since pumped.numbers).sent k ≡ Some envelope) is
                (subst (λ (sent : List Envelope). slice_get sent i ≡ Some envelope) (ap (λ (w : World). w.sent) pumped.world ∙ same pumped.numbers) there-now)))
            early-or (inr apart) =
                ⊎_elim (λ h. inl h) (λ h. inr (delivered-front setup envelope pumped.numbers number since h))
                (pumped.done i envelope there-now
                (sym (unset-other scene.fresh number i apart) ∙ (sym (mark-front (set scene.fresh number false) sends.more i within) ∙ marked)))

    -- Who was up at first is up at the end, so nothing fires.
    pub pumped-all : (k : ℕ) (lines : List Line) (scene : Scene) → Delivers setup begun k lines scene → ((j : ℕ) → IsUp begun j → IsUp scene j) → Pumped scene
    pumped-all k lines scene Delivers.none stay = record {
      numbers = [];
      world = refl;
      long_is = long;
      done = λ i envelope there marked. inl (old i envelope there marked);
    }
    pumped-all k lines scene (Delivers.more before said mid number delivers next) stay =
        pumped-more mid number (λ j up. stay j (was-up begun mid j (pump-down begun before said mid delivers j) up))
        (pumped-all before said mid delivers (λ j up. was-up mid scene j (taken-down mid number (slice_get mid.world.sent number) refl j) (stay j up))) next
