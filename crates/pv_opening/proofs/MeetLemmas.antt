-- Clients that are made one by one.
use Rattle.std.proofs.Common.{◌≡◌, ◌≢◌, ℕ, ◌+◌, ◌<◌, ◌==◌, Bool, true, false, if◌then◌else◌, Some, List, [], ◌∷◌, ◌++◌, All, length, get_or, refl, sym, ◌∙◌, ap, subst, ⊎_elim, arith, append_assoc, eq-eqb, eqb-true}
use Rattle.std.specs.Prelude.{Vec, drop, map, slice_get, take}
use Rattle.std.specs.declared.alloc.Global.{Global}
use Rattle.std.proofs.lemmas.List.{drop_more, get_or_append_left, get_or_push, length_push, take-append-le}
use Rattle.std.proofs.lemmas.List.Elements.{All-nil, All-push}
use Rattle.std.proofs.lemmas.Option.{get_or_from_slice_get, slice_get-get_or, slice_get_cases, slice_get_within}
use Rattle.std.proofs.Math.Seq.{take-append_seam}
use mathlib.Core.Logic.{dite}
use native.Mathlib.Decide.{ℕ_discrete}
use Rattle.pv_crew.specs.Messages.{no_faults}
use Rattle.pv_crew.specs.declared.client.Client.{Client}
use Rattle.pv_links.specs.Links.{IsUnusedIn, IsUnusedOut}
use Rattle.pv_links.specs.Rows.{AddsTo, StandsAt}
use Rattle.pv_mail.specs.declared.answer.Answer.{Answer}
use Rattle.pv_model.specs.LiveScript as model
use Rattle.pv_post.specs.declared.inlet.In.{In}
use Rattle.pv_post.specs.declared.outlet.Out.{Out}
use Rattle.pv_script.specs.LiveView.{wish_of}
use Rattle.pv_script.specs.declared.live.Client as script
use Rattle.pv_script.specs.declared.live.Request.{Request}
use Rattle.pv_script.specs.declared.live.Wish.{Wish}
use Rattle.pv_opening.proofs.PlaceLemmas.{last-place, left-place}
use Rattle.pv_opening.specs.Counts.{count_at}
use Rattle.pv_opening.specs.Meeting.{AreMet, IsAsking, IsMet, IsTelling}

-- ## Counts
zero-more : (m : ℕ) → m + 0 ≡ m
zero-more m = omega arith

one-more-if : (test : Bool) (m k r : ℕ) → m ≡ k + r → (if test then m + 1 else m) ≡ (if test then k + 1 else k) + r
one-more-if true m k r is = omega (arith, is)
one-more-if false m k r is = is

count-push : (n : ℕ) (clients : List script.Client) (client : script.Client)
    → count_at n (clients ++ client ∷ []) ≡ count_at n clients + count_at n (client ∷ [])
count-push n [] client = omega arith
count-push n (first ∷ clients) client =
    one-more-if (first.site.0 == n) (count_at n (clients ++ client ∷ [])) (count_at n clients) (count_at n (client ∷ [])) (count-push n clients client)

count-here : (n : ℕ) (clients : List script.Client) (client : script.Client) → client.site.0 ≡ n → count_at n (clients ++ client ∷ []) ≡ count_at n clients + 1
count-here n clients client is =
    count-push n clients client ∙ ap (λ (test : Bool). count_at n clients + (if test then 1 else 0)) (eq-eqb client.site.0 n is)

counted : (test : Bool) (n : ℕ) (client : script.Client) → (client.site.0 == n) ≡ test → n ≢ client.site.0 → ◌≡◌ {A = ℕ} (if test then 1 else 0) 0
counted true n client is isnt = absurd (isnt (sym (eqb-true client.site.0 n is)))
counted false n client is isnt = refl

count-elsewhere : (n : ℕ) (clients : List script.Client) (client : script.Client) → n ≢ client.site.0 → count_at n (clients ++ client ∷ []) ≡ count_at n clients
count-elsewhere n clients client isnt =
    let none = counted (client.site.0 == n) n client refl isnt in
    count-push n clients client ∙ ap (λ (m : ℕ). count_at n clients + m) none ∙ zero-more (count_at n clients)

-- ## Rows
module _ {A : Type 0} (row : ℕ) (one : A) (old new : List (Vec A Global)) (adds : AddsTo row one old new) where
  -- What stands in a row stands there still.
  still-stands : (n place : ℕ) (x : A) → StandsAt old n place x → StandsAt new n place x
  still-stands n place x stands =
      let before = stands.0 in
      let within = slice_get_within old n before stands.1 in
      let after = get_or new n before in
      let there : slice_get new n ≡ Some after = slice_get-get_or new n before (subst (λ m. n < m) adds.0 within) in
      let was : get_or old n before ≡ before = get_or_from_slice_get old n before before stands.1 in
      let now = adds.1 n before before within in
      dite (ℕ_discrete n row)
      (λ is. (
        after,
        there,
        ap (λ l. slice_get l place) (now.0 is ∙ ap (λ (v : Vec A Global). v.items ++ one ∷ []) was)
            ∙ left-place before.items place x one stands.2,
      ))
      (λ isnt. (after, there, ap (λ l. slice_get l place) (now.1 isnt ∙ ap (λ (v : Vec A Global). v.items) was) ∙ stands.2))

  -- The row has one more at its end.
  stands-last : (before : Vec A Global) → slice_get old row ≡ Some before → StandsAt new row (length before.items) one
  stands-last before there =
      let within = slice_get_within old row before there in
      let after = get_or new row before in
      let was : get_or old row before ≡ before = get_or_from_slice_get old row before before there in (
        after,
        slice_get-get_or new row before (subst (λ m. row < m) adds.0 within),
        ap (λ l. slice_get l (length before.items)) ((adds.1 row before before within).0 refl ∙ ap (λ (v : Vec A Global). v.items ++ one ∷ []) was)
            ∙ last-place before.items one,
      )

  -- What each row is now.
  row-now : (n : ℕ) (after : Vec A Global) → slice_get new n ≡ Some after
      → (before : Vec A Global) × (slice_get old n ≡ Some before) × (n ≡ row → after.items ≡ before.items ++ one ∷ []) × (n ≢ row → after.items ≡ before.items)
  row-now n after there =
      let within : n < length old = subst (λ m. n < m) (sym adds.0) (slice_get_within new n after there) in
      let before = get_or old n after in
      let is : get_or new n after ≡ after = get_or_from_slice_get new n after after there in
      let now = adds.1 n after after within in
      (before, slice_get-get_or old n after within, λ same. ap (λ (v : Vec A Global). v.items) (sym is) ∙ now.0 same, λ isnt. ap (λ (v : Vec A Global). v.items) (sym is) ∙ now.1 isnt)

-- ## Copies
-- the requests among wishes, of which the first is put apart
among-first : (wish : model.Wish) (wishes : List model.Wish) → model.requests_among (wish ∷ wishes) ≡ model.requests_among (wish ∷ []) ++ model.requests_among wishes
among-first (model.to_ask request) wishes = refl
among-first (model.to_peek number item) wishes = refl

-- The requests among the wishes left, when one more was copied where it is one.
pub copied-more : (copied more : List model.Request) (wishes : List Wish) (i : ℕ) (wish : Wish) (all : List model.Request)
    → copied ++ model.requests_among (map wish_of (drop i wishes)) ≡ all → i < length wishes → wish ≡ get_or wishes i wish
    → more ≡ copied ++ model.requests_among (wish_of wish ∷ []) → more ++ model.requests_among (map wish_of (drop (i + 1) wishes)) ≡ all
copied-more copied more wishes i wish all before less is grown =
    let left = map wish_of (drop (i + 1) wishes) in
    ap (λ l. l ++ model.requests_among left) grown
    ∙ append_assoc copied (model.requests_among (wish_of wish ∷ [])) (model.requests_among left)
    ∙ ap (λ l. copied ++ l) (sym (among-first (wish_of wish) left))
    ∙ ap (λ (w : Wish). copied ++ model.requests_among (wish_of w ∷ left)) is
    ∙ ap (λ l. copied ++ model.requests_among (map wish_of l)) (sym (drop_more wishes i wish less))
    ∙ before

-- ## One client more
pub met-first : (met : List (Client Request Answer)) (asked : List (Vec (In Request) Global)) (told : List (Vec (Out Answer) Global)) → met ≡ []
    → All (λ row. row.items ≡ []) asked → All (λ row. row.items ≡ []) told → AreMet [] met asked told
met-first met asked told none quiet silent = record {
  each = (sym (ap (λ l. length l) none), λ k d e less. absurd (omega (arith, less)));
  asked_are = λ n row there.
      let within = slice_get_within asked n row there in
      let is : row.items ≡ [] = subst (λ (v : Vec (In Request) Global). v.items ≡ []) (get_or_from_slice_get asked n row row there) (quiet n row within) in
      (ap (λ l. length l) is, subst (λ l. All IsUnusedIn l) (sym is) (All-nil IsUnusedIn));
  told_are = λ n row there.
      let within = slice_get_within told n row there in
      let is : row.items ≡ [] = subst (λ (v : Vec (Out Answer) Global). v.items ≡ []) (get_or_from_slice_get told n row row there) (silent n row within) in
      (ap (λ l. length l) is, subst (λ l. All (IsUnusedOut no_faults) l) (sym is) (All-nil (IsUnusedOut no_faults)));
}

module _ {A : Type 0} (P : A → Type 0) (client : script.Client) (clients : List script.Client) (one : A) (old new : List (Vec A Global))
    (adds : AddsTo client.site.0 one old new)
    (are : (n : ℕ) (row : Vec A Global) → slice_get old n ≡ Some row → (length row.items ≡ count_at n clients) × All P row.items) where
  -- The new one stands behind those of its site that came before.
  stands-behind : client.site.0 < length old → StandsAt new client.site.0 (count_at client.site.0 clients) one
  stands-behind within = ⊎_elim
      (λ found.
      subst (λ n. StandsAt new client.site.0 n one) (are client.site.0 found.0 found.2).0 (stands-last client.site.0 one old new adds found.0 found.2))
      (λ past. let over = past.0 in absurd (omega (arith, within)))
      ((slice_get_cases old client.site.0).1)

  module _ (fresh : P one) where
    -- Each site has one end for each of its clients.
    rows-more : (n : ℕ) (row : Vec A Global) → slice_get new n ≡ Some row → (length row.items ≡ count_at n (clients ++ client ∷ [])) × All P row.items
    rows-more n row there =
        let was = row-now client.site.0 one old new adds n row there in
        let before = was.0 in
        let had = are n before was.1 in
        dite (ℕ_discrete n client.site.0)
        (λ is. let items = was.2 is in (
          ap (λ l. length l) items ∙ length_push before.items one ∙ ap (λ (m : ℕ). m + 1) had.0 ∙ sym (count-here n clients client (sym is)),
          subst (λ l. All P l) (sym items) (All-push P before.items one had.1 fresh),
        ))
        (λ isnt. let items = was.3 isnt in (
          ap (λ l. length l) items ∙ had.0 ∙ sym (count-elsewhere n clients client isnt),
          subst (λ l. All P l) (sym items) had.1,
        ))

module _ (clients : List script.Client) (client : script.Client) (met : List (Client Request Answer)) (one : Client Request Answer)
    (asked asked' : List (Vec (In Request) Global)) (told told' : List (Vec (Out Answer) Global)) (are : AreMet clients met asked told)
    (asking : IsAsking client one asked asked') (telling : IsTelling client one told told') (within : client.site.0 < length asked) (same : length told ≡ length asked)
  where
    -- The client itself stands behind those of its site that came before.
    met-here : IsMet (count_at client.site.0 clients) client one asked' told'
    met-here = (
      asking.0,
      (
        asking.1.0,
        stands-behind IsUnusedIn client clients asking.1.0 asked asked' asking.1.1 are.asked_are within,
        asking.1.2,
      ),
      (
        telling.0,
        stands-behind (IsUnusedOut no_faults) client clients telling.0 told told' telling.1 are.told_are (subst (λ n. client.site.0 < n) (sym same) within),
        telling.2,
      ),
    )

    met-still : (place : ℕ) (other : script.Client) (its : Client Request Answer) → IsMet place other its asked told → IsMet place other its asked' told'
    met-still place other its is = (
      is.0,
      (is.1.0, still-stands client.site.0 asking.1.0 asked asked' asking.1.1 other.site.0 place is.1.0 is.1.1, is.1.2),
      (is.2.0, still-stands client.site.0 telling.0 told told' telling.1 other.site.0 place is.2.0 is.2.1, is.2.2),
    )

    pub met-more : AreMet (clients ++ client ∷ []) (met ++ one ∷ []) asked' told'
    met-more = record {
      each = (
        length_push clients client ∙ ap (λ (n : ℕ). n + 1) are.each.0 ∙ sym (length_push met one),
        λ k d e less. dite (ℕ_discrete k (length clients))
            (λ is.
            let front : take k (clients ++ client ∷ []) ≡ clients = ap (λ n. take n (clients ++ client ∷ [])) is ∙ take-append_seam clients (client ∷ []) in
            subst (λ (c : script.Client). IsMet (count_at c.site.0 (take k (clients ++ client ∷ []))) c (get_or (met ++ one ∷ []) k e) asked' told')
            (sym (get_or_push clients client d k (sym is)))
            (subst (λ (m : Client Request Answer). IsMet (count_at client.site.0 (take k (clients ++ client ∷ []))) client m asked' told')
            (sym (get_or_push met one e k (sym (is ∙ are.each.0))))
            (subst (λ l. IsMet (count_at client.site.0 l) client one asked' told') (sym front) met-here)))
            (λ isnt.
            let long = length_push clients client in
            let before : k < length clients = omega (arith, less, long, isnt) in
            let front : take k (clients ++ client ∷ []) ≡ take k clients = take-append-le k clients (client ∷ []) (omega (arith, before)) in
            subst (λ (c : script.Client). IsMet (count_at c.site.0 (take k (clients ++ client ∷ []))) c (get_or (met ++ one ∷ []) k e) asked' told')
            (sym (get_or_append_left clients (client ∷ []) d k before))
            (subst (λ (m : Client Request Answer). IsMet (count_at (get_or clients k d).site.0 (take k (clients ++ client ∷ []))) (get_or clients k d) m asked' told')
            (sym (get_or_append_left met (one ∷ []) e k (subst (λ n. k < n) are.each.0 before)))
            (subst (λ l. IsMet (count_at (get_or clients k d).site.0 l) (get_or clients k d) (get_or met k e) asked' told') (sym front)
            (met-still (count_at (get_or clients k d).site.0 (take k clients)) (get_or clients k d) (get_or met k e) (are.each.1 k d e before))))),
      );
      asked_are = rows-more IsUnusedIn client clients asking.1.0 asked asked' asking.1.1 are.asked_are asking.1.3;
      told_are = rows-more (IsUnusedOut no_faults) client clients telling.0 told told' telling.1 are.told_are telling.3;
    }
