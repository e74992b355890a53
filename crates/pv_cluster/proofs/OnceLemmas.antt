-- Of a client's requests those that stand in the history stand there each once and in order.
use Rattle.std.proofs.Common.{◌≡◌, ℕ, ◌<◌, List, [], ◌∷◌, ◌++◌, length, get_or, map, drop, reverse, replicate, refl, sym, ap, ◌∙◌, subst, ⊎_elim, arith, append_assoc}
use Rattle.std.proofs.lemmas.Grind.{not_there}
use Rattle.std.proofs.lemmas.List.{get_or-map, length-map, map-append}
use Rattle.std.proofs.lemmas.Option.{slice_get_cases}
use Rattle.std.specs.Prelude.{Contains}
use mathlib.Core.List.{IsPrefix, Sublist, Sublistᴰ, sublist-append_left}
use mathlib.Core.List.Sublistᴰ as derived
use mathlib.Core.List.Sublist.{trans as sublist-trans}
use Rattle.pv_base.proofs.ContainsLemmas.{Contains-behind, Contains-cases, Contains-first, Contains-nil}
use Rattle.pv_cell.specs.Course.{HasCourse, asked_again}
use Rattle.pv_cell.specs.declared.site_box.SiteBox.{SiteBox}
use Rattle.pv_closing.specs.Clients.{AreInOrder, IsLineOf, IsServed, IsTold}
use Rattle.pv_closing.specs.declared.ended.Ended.{Ended}
use Rattle.pv_crew.specs.Messages.{once_each}
use Rattle.pv_history.specs.Entries.{stamps_of}
use Rattle.pv_law_passing.specs.Asking.{asked_by}
use Rattle.pv_law_passing.specs.Coming.{counted}
use Rattle.pv_model.specs.LiveScript as model
use Rattle.pv_opening.specs.Opened.{AsksBox}
use Rattle.pv_post.specs.Ends.{posted, taken}
use Rattle.pv_post.specs.declared.inlet.In.{In}
use Rattle.pv_rings.specs.Rings.{Each}
use Rattle.pv_script.specs.LiveView.{request_of, requests_by, wish_of}
use Rattle.pv_script.specs.declared.live.Client.{Client}
use Rattle.pv_script.specs.declared.live.Request.{Request}
use Rattle.pv_script.specs.declared.live.Wish.{Wish}
use Rattle.pv_script.specs.declared.live.Wish.TheVariants.{Do, Peek}
use Rattle.pv_rings.proofs.EachLemmas.{get_or-any}
use Rattle.pv_told.specs.declared.line.ClientLine.{ClientLine}

-- A beginning of messages that count once each is, with each as often as it counts, a beginning of the messages.
once-begins : {M : Type 0} (front rest : List (M × ℕ)) (all : List M) → front ++ rest ≡ once_each all → IsPrefix (counted front) all
once-begins [] rest all is = (all, refl)
once-begins {M} (one ∷ front) rest [] is = let long = ap (λ (l : List (M × ℕ)). length l) is in absurd (omega (arith, long))
once-begins {M} (one ∷ front) rest (first ∷ all) is =
    let more = once-begins front rest all (ap (λ (l : List (M × ℕ)). drop 1 l) is) in
    let same : one ≡ (first, 1) = ap (λ (l : List (M × ℕ)). get_or l 0 one) is in (
      more.0,
      subst (λ (it : M × ℕ). (replicate it.1 it.0 ++ counted front) ++ more.0 ≡ first ∷ all) (sym same) (ap (λ (l : List M). first ∷ l) more.1),
    )

-- what was asked by a ring
abbrev pub requests_taken : In Request → List model.Request
requests_taken inlet = map request_of (counted (taken inlet))

module _ {W : Type 0} (box : SiteBox W) (place : ℕ) (ended : Ended) (client : Client) where
  -- Where a client asks by its ring, what it asks for stands once.
  pub stands-once : HasCourse box → AsksBox place ended.asks box
      → ((inlet : In Request) → IsPrefix (taken (get_or box.ends.clients_in.items place inlet)) (posted ended.asks))
      → map request_of ended.script.items ≡ requests_by client
      → Sublist (asked_by place (stamps_of box.history.items)) (requests_by client)
  stands-once course asks began same =
      ⊎_elim (λ found. by found.0) (λ out. let past = out.0 in let there = asks.0 in absurd (omega (arith, past, there)))
      ((slice_get_cases box.ends.clients_in.items place).1)
    where
      by : In Request → Sublist (asked_by place (stamps_of box.history.items)) (requests_by client)
      by inlet =
          let ring = get_or box.ends.clients_in.items place inlet in
          let front = began inlet in
          let left = once_each (reverse ended.left.items) in
          let begins = once-begins (taken ring) (front.0 ++ left) ended.script.items
          (sym (append_assoc (taken ring) front.0 left) ∙ ap (λ (all : List (Request × ℕ)). all ++ left) front.1 ∙ ended.in_order) in
          let asked : requests_taken ring ++ map request_of begins.0 ≡ requests_by client =
          sym (map-append request_of (counted (taken ring)) begins.0) ∙ ap (λ (all : List Request). map request_of all) begins.1 ∙ same in
          sublist-trans (sublist-append_left (asked_by place (stamps_of box.history.items)) (asked_again place box.again))
          (sublist-trans (subst (λ (all : List model.Request). Sublist (asked_by place (stamps_of box.history.items) ++ asked_again place box.again) all)
          (get_or-map requests_taken box.ends.clients_in.items place inlet [] asks.0) (course.asked place))
          (subst (λ (all : List model.Request). Sublist (requests_taken ring) all) asked (sublist-append_left (requests_taken ring) (map request_of begins.0))))

-- What is left in stands in the whole.
kept-in : {A : Type 0} (xs ys : List A) (x : A) → Sublistᴰ xs ys → Contains xs x → Contains ys x
kept-in xs ys x derived.slnil there = there
kept-in xs (y ∷ ys) x (derived.cons more) there = Contains-behind y ys x (kept-in xs ys x more there)
kept-in {A} (z ∷ xs) (y ∷ ys) x (derived.cons-cons same more) there =
    ⊎_elim (λ is. subst (λ (v : A). Contains (y ∷ ys) v) (sym same ∙ is) (Contains-first y ys)) (λ behind. Contains-behind y ys x (kept-in xs ys x more behind))
    (Contains-cases z xs x there)

-- What is among the requests is among all that is wanted.
among-wishes : (wishes : List model.Wish) (asked : model.Request) → Contains (model.requests_among wishes) asked → Contains wishes (model.to_ask asked)
among-wishes [] asked there = absurd (Contains-nil asked there)
among-wishes (model.to_ask request ∷ wishes) asked there =
    ⊎_elim
    (λ same. subst (λ (r : model.Request). Contains (model.to_ask request ∷ wishes) (model.to_ask r)) same (Contains-first (model.to_ask request) wishes))
    (λ behind. Contains-behind (model.to_ask request) wishes (model.to_ask asked) (among-wishes wishes asked behind))
    (Contains-cases request (model.requests_among wishes) asked there)
among-wishes (model.to_peek number item ∷ wishes) asked there =
    Contains-behind (model.to_peek number item) wishes (model.to_ask asked) (among-wishes wishes asked there)

ask-inj : (one other : model.Request) → model.to_ask one ≡ model.to_ask other → one ≡ other
ask-inj one other same = cc

module _ {W : Type 0} (box : SiteBox W) (place : ℕ) (client : Client) (once : Sublist (asked_by place (stamps_of box.history.items)) (requests_by client))
    (numbers : (n : ℕ) (any : Wish) → n < length client.requests.items → model.number_of (wish_of (get_or client.requests.items n any)) ≡ n) where
  -- What stands in the history with the number of a request is that request.
  the-one : (n : ℕ) (request : Request) → n < length client.requests.items → get_or client.requests.items n (Do request) ≡ Do request → (asked : model.Request)
      → Contains (requests_by client) asked → asked.number ≡ n → asked ≡ request_of request
  the-one n request less here asked there is =
      let wishes = client.requests.items in
      let at = among-wishes (map wish_of wishes) asked there in
      let k = at.0 in
      let short : k < length wishes = subst (λ (m : ℕ). k < m) (length-map wishes wish_of) at.1 in
      let found : wish_of (get_or wishes k (Do request)) ≡ model.to_ask asked = sym (get_or-map wish_of wishes k (Do request) (model.to_ask asked) short) ∙ at.2 in
      let same : k ≡ n = sym (numbers k (Do request) short) ∙ (ap model.number_of found ∙ is) in
      ask-inj asked (request_of request) (sym found ∙ ap (λ (j : ℕ). wish_of (get_or wishes j (Do request))) same ∙ ap wish_of here)

  -- The line of what is wanted, whatever that is.
  line-of : (n : ℕ) (wish : Wish) (line : ClientLine) → n < length client.requests.items → get_or client.requests.items n wish ≡ wish → IsTold box place n wish line
      → IsLineOf box place n wish line
  line-of n (Do request) line less here is = record {
    number = is.0;
    heard = is.1;
    lost = λ none. is.2 (λ asked there same. not_there once (λ left.
        none (subst (λ (r : model.Request). Contains (asked_by place (stamps_of box.history.items)) r)
        (the-one n request less here asked (kept-in (asked_by place (stamps_of box.history.items)) (requests_by client) asked left there) same) there)));
  }
  line-of n (Peek number item) line less here is = is

  pub serves : (lines : List ClientLine) → Each (IsTold box place) client.requests.items lines → AreInOrder box place lines → IsServed box place client lines
  serves lines told looks = record {
    lines_are = (
      told.0,
      λ n any line less.
          let wish = get_or client.requests.items n any in
          line-of n wish (get_or lines n line) less (get_or-any client.requests.items n any wish less) (told.1 n any line less),
    );
    looks = looks;
    once = once;
  }
