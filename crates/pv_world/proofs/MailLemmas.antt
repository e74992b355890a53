-- Messages as they are held, and as they are seen.
use Rattle.std.proofs.Common.{◌≡◌, ℕ, zero, suc, ◌+◌, ◌-◌, ◌<◌, ◌≤◌, Bool, true, false, ◌&&◌, not, List, [], ◌∷◌, ◌++◌, length, get_or, set, take, drop, cond, eqb, ltb, Some, None, refl, sym, ap, ap₂, ◌∙◌, subst, arith, All}
use Rattle.std.specs.Prelude.{slice_get, slice_index, slice_index_or}
use Rattle.std.specs.Option.{option_map}
use Rattle.std.specs.List.{position, position_or_len}
use Rattle.std.proofs.lemmas.Bool.{le-leb, lt-ltb, le-ltb, true≢false}
use Rattle.std.proofs.lemmas.Grind.{common_steps}
use Rattle.std.proofs.lemmas.List.{take-append-le, drop-append-le, length-append, length-drop, length-set, length-take}
use Rattle.std.proofs.lemmas.List.Elements.{All-head, All-tail, All-weaker, All-set}
use Rattle.std.proofs.lemmas.List.Sums.{sum_by-cons}
use Rattle.std.proofs.Math.Seq.{drop-append_seam, take-length}
use Rattle.pv_world.specs.Mail.{Posted, bytes_sent, with_done_post, without_posts_to}
use Rattle.pv_world.specs.MailView.{is_fresh, marks_from, posts_from, begin_at, AreEnds, IsMail}
use Rattle.pv_world.specs.declared.error.WorldError.TheVariants.{SentLimit}
use Rattle.pv_world.specs.declared.mail.Post.{Post}

-- The marks.

pub length-marks : (dropped : List ℕ) (n : ℕ) (posts : List Post) → length (marks_from dropped n posts) ≡ length posts
length-marks dropped n [] = refl
length-marks dropped n (post ∷ posts) = ap suc (length-marks dropped (n + 1) posts)

pub length-posts : (bytes dropped : List ℕ) (n begin : ℕ) (posts : List Post) → length (posts_from bytes dropped n begin posts) ≡ length posts
length-posts bytes dropped n begin [] = refl
length-posts bytes dropped n begin (post ∷ posts) = ap suc (length-posts bytes dropped (n + 1) post.end posts)

-- whether the message is fresh, by its number
pub mark-at : (dropped : List ℕ) (n k : ℕ) (posts : List Post) (none : Post) → k < length posts
    → get_or (marks_from dropped n posts) k false ≡ is_fresh dropped (n + k) (slice_index_or posts k none)
mark-at dropped n k [] none h = absurd (omega arith)
mark-at dropped n zero (post ∷ posts) none h = ap (λ i. is_fresh dropped i post) (omega arith)
mark-at dropped n (suc k) (post ∷ posts) none h =
    mark-at dropped (n + 1) k posts none (omega arith) ∙ ap (λ i. is_fresh dropped i (slice_index_or posts k none)) (omega arith)

-- the same, where the numbers begin at 0
pub mark-of : (dropped : List ℕ) (k : ℕ) (posts : List Post) (none : Post) → k < length posts
    → get_or (marks_from dropped 0 posts) k false ≡ is_fresh dropped k (slice_index_or posts k none)
mark-of dropped k posts none h = mark-at dropped 0 k posts none h ∙ ap (λ i. is_fresh dropped i (slice_index_or posts k none)) (omega arith)

pub fresh-of-marks : (bytes dropped : List ℕ) (n begin : ℕ) (posts : List Post)
    → position_or_len (λ post. post.fresh) (posts_from bytes dropped n begin posts) ≡ position_or_len (λ mark. mark) (marks_from dropped n posts)
fresh-of-marks bytes dropped n begin [] = refl
fresh-of-marks bytes dropped n begin (post ∷ posts) =
    ap (λ (m : ℕ). cond (not (is_fresh dropped n post)) (1 + m) 0) (fresh-of-marks bytes dropped (n + 1) post.end posts)

-- Their bytes.

pub ends-below : (begin total : ℕ) (posts : List Post) → AreEnds begin total posts → begin ≤ total
ends-below begin total [] e = omega arith
ends-below begin total (post ∷ posts) e = let rest = ends-below post.end total posts e.1 in omega arith

pub begin-after : (begin k : ℕ) (posts : List Post) (none : Post) → k < length posts → begin_at begin posts (suc k) ≡ (slice_index_or posts k none).end
begin-after begin k [] none h = absurd (omega arith)
begin-after begin zero (post ∷ posts) none h = refl
begin-after begin (suc k) (post ∷ posts) none h = begin-after post.end k posts none (omega arith)

-- A message's bytes lie within all bytes.
pub bounds-at : (begin total k : ℕ) (posts : List Post) (none : Post) → AreEnds begin total posts → k < length posts
    → (begin_at begin posts k ≤ (slice_index_or posts k none).end) × ((slice_index_or posts k none).end ≤ total)
bounds-at begin total k [] none e h = absurd (omega arith)
bounds-at begin total zero (post ∷ posts) none e h = (e.0, ends-below post.end total posts e.1)
bounds-at begin total (suc k) (post ∷ posts) none e h = bounds-at post.end total k posts none e.1 (omega arith)

pub bytes-at : (bytes dropped : List ℕ) (n begin k : ℕ) (posts : List Post) (none : Post) → k < length posts
    → option_map (λ (post : Posted). post.bytes) (slice_get (posts_from bytes dropped n begin posts) k)
    ≡ Some (take ((slice_index_or posts k none).end - begin_at begin posts k) (drop (begin_at begin posts k) bytes))
bytes-at bytes dropped n begin k [] none h = absurd (omega arith)
bytes-at bytes dropped n begin zero (post ∷ posts) none h = refl
bytes-at bytes dropped n begin (suc k) (post ∷ posts) none h = bytes-at bytes dropped (n + 1) post.end k posts none (omega arith)

pub bytes-past : (bytes dropped : List ℕ) (n begin k : ℕ) (posts : List Post) → length posts ≤ k
    → slice_get (posts_from bytes dropped n begin posts) k ≡ None
bytes-past bytes dropped n begin k [] h = refl
bytes-past bytes dropped n begin zero (post ∷ posts) h = absurd (omega arith)
bytes-past bytes dropped n begin (suc k) (post ∷ posts) h = bytes-past bytes dropped (n + 1) post.end k posts (omega arith)

pub sent-of-posts : (bytes dropped : List ℕ) (n begin : ℕ) (posts : List Post) → AreEnds begin (length bytes) posts
    → bytes_sent (posts_from bytes dropped n begin posts) + begin ≡ length bytes
sent-of-posts bytes dropped n begin [] e = omega arith
sent-of-posts bytes dropped n begin (post ∷ posts) e =
    let rest = sent-of-posts bytes dropped (n + 1) post.end posts e.1 in
    let below = ends-below post.end (length bytes) posts e.1 in
    let sum = sum_by-cons (λ (post : Posted). length post.bytes) (record { to = post.to.0; bytes = take (post.end - begin) (drop begin bytes); fresh = is_fresh dropped n post })
    (posts_from bytes dropped (n + 1) post.end posts) in
    omega (arith, sum, length-take (post.end - begin) (drop begin bytes), length-drop begin bytes)

pub sent-whole : (bytes dropped : List ℕ) (posts : List Post) → AreEnds 0 (length bytes) posts → bytes_sent (posts_from bytes dropped 0 0 posts) ≡ length bytes
sent-whole bytes dropped posts e = let sum = sent-of-posts bytes dropped 0 0 posts e in omega arith

-- One more message.

pub ends-push : (begin more : ℕ) (total : ℕ) (posts : List Post) (post : Post) → post.end ≡ total + more → AreEnds begin total posts
    → AreEnds begin (total + more) (posts ++ post ∷ [])
ends-push begin more total [] post is e = (omega arith, is)
ends-push begin more total (first ∷ posts) post is e = (e.0, ends-push first.end more total posts post is e.1)

last-bytes : (bytes more : List ℕ) (begin end : ℕ) → begin ≡ length bytes → end ≡ length bytes + length more
    → take (end - begin) (drop begin (bytes ++ more)) ≡ more
last-bytes bytes more begin end is ends =
    ap₂ (λ (n m : ℕ). take n (drop m (bytes ++ more))) (omega arith) is ∙ ap (take (length more)) (drop-append_seam bytes more) ∙ take-length more

earlier-bytes : (bytes more : List ℕ) (begin end : ℕ) → begin ≤ length bytes → end ≤ length bytes
    → take (end - begin) (drop begin (bytes ++ more)) ≡ take (end - begin) (drop begin bytes)
earlier-bytes bytes more begin end begins ends =
    ap (take (end - begin)) (drop-append-le begin bytes more begins)
    ∙ take-append-le (end - begin) (drop begin bytes) more (omega (arith, length-drop begin bytes))

pub posts-push : (bytes more dropped : List ℕ) (n begin : ℕ) (posts : List Post) (post : Post) → AreEnds begin (length bytes) posts
    → post.end ≡ length bytes + length more → post.fresh ≡ true → slice_index dropped post.to.0 ≤ n + length posts
    → posts_from (bytes ++ more) dropped n begin (posts ++ post ∷ [])
    ≡ posts_from bytes dropped n begin posts ++ (record { to = post.to.0; bytes = more; fresh = true }) ∷ []
posts-push bytes more dropped n begin [] post e end fresh count =
    ap₂ (λ (bytes : List ℕ) (fresh : Bool). (record { to = post.to.0; bytes = bytes; fresh = fresh }) ∷ [])
    (last-bytes bytes more begin post.end e end)
    (ap₂ (λ a b. a && b) fresh (le-leb (slice_index dropped post.to.0) n (omega arith)))
posts-push bytes more dropped n begin (first ∷ posts) post e end fresh count =
    ap₂ (λ (bytes : List ℕ) (rest : List Posted). (record { to = first.to.0; bytes = bytes; fresh = is_fresh dropped n first }) ∷ rest)
    (earlier-bytes bytes more begin first.end (omega (arith, ends-below first.end (length bytes) posts e.1, e.0)) (ends-below first.end (length bytes) posts e.1))
    (posts-push bytes more dropped (n + 1) first.end posts post e.1 end fresh (omega arith))

-- A message is done.

pub posts-finish : (bytes dropped : List ℕ) (n begin k : ℕ) (posts : List Post) (none : Post)
    → posts_from bytes dropped n begin (set posts k (record (slice_index_or posts k none) { fresh = false })) ≡ with_done_post k (posts_from bytes dropped n begin posts)
posts-finish bytes dropped n begin k [] none = refl
posts-finish bytes dropped n begin zero (post ∷ posts) none = refl
posts-finish bytes dropped n begin (suc k) (post ∷ posts) none =
    ap (λ rest. (record { to = post.to.0; bytes = take (post.end - begin) (drop begin bytes); fresh = is_fresh dropped n post }) ∷ rest)
    (posts-finish bytes dropped (n + 1) post.end k posts none)

done-past : (k : ℕ) (posts : List Posted) → length posts ≤ k → with_done_post k posts ≡ posts
done-past k [] h = refl
done-past zero (post ∷ posts) h = absurd (omega arith)
done-past (suc k) (post ∷ posts) h = ap (λ rest. post ∷ rest) (done-past k posts (omega arith))

-- A number that no message has changes nothing.
pub posts-past : (bytes dropped : List ℕ) (k : ℕ) (posts : List Post) → length posts ≤ k
    → with_done_post k (posts_from bytes dropped 0 0 posts) ≡ posts_from bytes dropped 0 0 posts
posts-past bytes dropped k posts h =
    let long = length-posts bytes dropped 0 0 posts in done-past k (posts_from bytes dropped 0 0 posts) (omega arith)

pub ends-finish : (begin total k : ℕ) (posts : List Post) (none : Post) → AreEnds begin total posts
    → AreEnds begin total (set posts k (record (slice_index_or posts k none) { fresh = false }))
ends-finish begin total k [] none e = e
ends-finish begin total zero (post ∷ posts) none e = e
ends-finish begin total (suc k) (post ∷ posts) none e = (e.0, ends-finish post.end total k posts none e.1)

pub finish-later : (k : ℕ) (posts : List Posted) → position_or_len (λ post. post.fresh) posts ≤ position_or_len (λ post. post.fresh) (with_done_post k posts)
finish-later k [] = omega arith
finish-later zero (post ∷ posts) = grind arith
finish-later (suc k) (post ∷ posts) = let rest = finish-later k posts in grind arith

-- The messages to a site are done.

fresh-drop : (dropped : List ℕ) (n site count : ℕ) (post : Post) → site < length dropped → n < count
    → is_fresh (set dropped site count) n post ≡ is_fresh dropped n post && not (eqb post.to.0 site)
fresh-drop dropped n site count post within below = grind (arith, common_steps)

pub posts-drop : (bytes dropped : List ℕ) (n begin site count : ℕ) (posts : List Post) → site < length dropped → n + length posts ≤ count
    → posts_from bytes (set dropped site count) n begin posts ≡ without_posts_to site (posts_from bytes dropped n begin posts)
posts-drop bytes dropped n begin site count [] within h = refl
posts-drop bytes dropped n begin site count (post ∷ posts) within h =
    ap₂ (λ (fresh : Bool) (rest : List Posted). (record { to = post.to.0; bytes = take (post.end - begin) (drop begin bytes); fresh = fresh }) ∷ rest)
    (fresh-drop dropped n site count post within (omega arith))
    (posts-drop bytes dropped (n + 1) post.end site count posts within (omega arith))

pub drop-later : (site : ℕ) (posts : List Posted) → position_or_len (λ post. post.fresh) posts ≤ position_or_len (λ post. post.fresh) (without_posts_to site posts)
drop-later site [] = omega arith
drop-later site (post ∷ posts) = let rest = drop-later site posts in grind arith

-- The first fresh message.

pub first-here : (marks : List Bool) (k : ℕ) → k ≤ position_or_len (λ mark. mark) marks → k < length marks → get_or marks k false ≡ true
    → k ≡ position_or_len (λ mark. mark) marks
first-here [] k h within is = absurd (omega arith)
first-here (mark ∷ marks) zero h within is = sym (ap (λ b. cond (not b) (1 + position_or_len (λ mark. mark) marks) 0) is)
first-here (true ∷ marks) (suc k) h within is = absurd (omega arith)
first-here (false ∷ marks) (suc k) h within is = let rest = first-here marks k (omega arith) (omega arith) is in omega arith

pub first-past : (marks : List Bool) (k : ℕ) → k ≤ position_or_len (λ mark. mark) marks → k < length marks → get_or marks k false ≡ false
    → k + 1 ≤ position_or_len (λ mark. mark) marks
first-past [] k h within is = absurd (omega arith)
first-past (true ∷ marks) zero h within is = absurd (true≢false is)
first-past (false ∷ marks) zero h within is = omega arith
first-past (true ∷ marks) (suc k) h within is = absurd (omega arith)
first-past (false ∷ marks) (suc k) h within is = let rest = first-past marks k (omega arith) (omega arith) is in omega arith

pub first-within : (marks : List Bool) → position_or_len (λ mark. mark) marks ≤ length marks
first-within [] = omega arith
first-within (true ∷ marks) = omega arith
first-within (false ∷ marks) = let rest = first-within marks in omega arith

pub first-found : (bytes dropped : List ℕ) (posts : List Post) (k : ℕ) → k ≡ position_or_len (λ mark. mark) (marks_from dropped 0 posts) → k < length posts
    → position (λ (post : Posted). post.fresh) (posts_from bytes dropped 0 0 posts) ≡ Some k
first-found bytes dropped posts k is within =
    let place : position_or_len (λ (post : Posted). post.fresh) (posts_from bytes dropped 0 0 posts) ≡ k = fresh-of-marks bytes dropped 0 0 posts ∙ sym is in
    let long = length-posts bytes dropped 0 0 posts in
    ap (λ n. cond (ltb n (length (posts_from bytes dropped 0 0 posts))) (Some n) None) place
    ∙ ap (λ b. cond b (Some k) None) (lt-ltb k (length (posts_from bytes dropped 0 0 posts)) (omega arith))

pub first-missing : (bytes dropped : List ℕ) (posts : List Post) (k : ℕ) → k ≡ position_or_len (λ mark. mark) (marks_from dropped 0 posts) → length posts ≤ k
    → position (λ (post : Posted). post.fresh) (posts_from bytes dropped 0 0 posts) ≡ None
first-missing bytes dropped posts k is past =
    let place : position_or_len (λ (post : Posted). post.fresh) (posts_from bytes dropped 0 0 posts) ≡ k = fresh-of-marks bytes dropped 0 0 posts ∙ sym is in
    let long = length-posts bytes dropped 0 0 posts in
    ap (λ n. cond (ltb n (length (posts_from bytes dropped 0 0 posts))) (Some n) None) place
    ∙ ap (λ b. cond b (Some k) None) (le-ltb k (length (posts_from bytes dropped 0 0 posts)) (omega arith))

-- What the fields keep to.

-- No count is above a bound of all.
counted : (bound : ℕ) (counts : List ℕ) (k : ℕ) → All (λ count. count ≤ bound) counts → slice_index counts k ≤ bound
counted bound [] k h = omega arith
counted bound (count ∷ counts) zero h = All-head (λ count. count ≤ bound) count counts h
counted bound (count ∷ counts) (suc k) h = counted bound counts k (All-tail (λ count. count ≤ bound) count counts h)

push-later : (posts : List Posted) (post : Posted) → position_or_len (λ post. post.fresh) posts ≤ position_or_len (λ post. post.fresh) (posts ++ post ∷ [])
push-later [] post = omega arith
push-later (first ∷ posts) post = let rest = push-later posts post in grind arith

-- Where the first fresh message comes no earlier, what is known of those before it stays.
still-done : (bytes others dropped counts : List ℕ) (posts later : List Post) (first : ℕ)
    → position_or_len (λ post. post.fresh) (posts_from bytes dropped 0 0 posts) ≤ position_or_len (λ post. post.fresh) (posts_from others counts 0 0 later)
    → first ≤ position_or_len (λ mark. mark) (marks_from dropped 0 posts) → first ≤ position_or_len (λ mark. mark) (marks_from counts 0 later)
still-done bytes others dropped counts posts later first le done =
    let before = fresh-of-marks bytes dropped 0 0 posts in
    let after = fresh-of-marks others counts 0 0 later in
    omega arith

pub view-push : (bytes more dropped : List ℕ) (first : ℕ) (posts : List Post) (post : Post) → IsMail bytes dropped first posts
    → post.end ≡ length bytes + length more → post.fresh ≡ true
    → posts_from (bytes ++ more) dropped 0 0 (posts ++ post ∷ [])
    ≡ posts_from bytes dropped 0 0 posts ++ (record { to = post.to.0; bytes = more; fresh = true }) ∷ []
view-push bytes more dropped first posts post is end fresh =
    posts-push bytes more dropped 0 0 posts post is.ends end fresh (omega (arith, counted (length posts) dropped post.to.0 is.counts))

pub IsMail-push : (bytes more dropped : List ℕ) (first : ℕ) (posts : List Post) (post : Post) → IsMail bytes dropped first posts
    → post.end ≡ length bytes + length more → post.fresh ≡ true → IsMail (bytes ++ more) dropped first (posts ++ post ∷ [])
IsMail-push bytes more dropped first posts post is end fresh =
    record {
      ends = subst (λ total. AreEnds 0 total (posts ++ post ∷ [])) (sym (length-append bytes more))
          (ends-push 0 (length more) (length bytes) posts post end is.ends);
      sites = is.sites;
      counts = All-weaker (λ count. count ≤ length posts) (λ count. count ≤ length (posts ++ post ∷ []))
          (λ count h. omega (arith, h, length-append posts (post ∷ []))) dropped is.counts;
      done = still-done bytes (bytes ++ more) dropped dropped posts (posts ++ post ∷ []) first
          (subst (λ later. position_or_len (λ post. post.fresh) (posts_from bytes dropped 0 0 posts) ≤ position_or_len (λ post. post.fresh) later)
          (sym (view-push bytes more dropped first posts post is end fresh))
          (push-later (posts_from bytes dropped 0 0 posts) (record { to = post.to.0; bytes = more; fresh = true })))
          is.done;
    }

pub IsMail-finish : (bytes dropped : List ℕ) (first k : ℕ) (posts : List Post) (none : Post) → IsMail bytes dropped first posts
    → IsMail bytes dropped first (set posts k (record (slice_index_or posts k none) { fresh = false }))
IsMail-finish bytes dropped first k posts none is =
    let later = set posts k (record (slice_index_or posts k none) { fresh = false }) in
    let long : length later ≡ length posts = length-set posts k _ in
    record {
      ends = ends-finish 0 (length bytes) k posts none is.ends;
      sites = is.sites;
      counts = subst (λ bound. All (λ count. count ≤ bound) dropped) (sym long) is.counts;
      done = still-done bytes bytes dropped dropped posts later first
          (subst (λ posted. position_or_len (λ post. post.fresh) (posts_from bytes dropped 0 0 posts) ≤ position_or_len (λ post. post.fresh) posted)
          (sym (posts-finish bytes dropped 0 0 k posts none))
          (finish-later k (posts_from bytes dropped 0 0 posts)))
          is.done;
    }

pub IsMail-drop : (bytes dropped : List ℕ) (first site : ℕ) (posts : List Post) → site < length dropped → IsMail bytes dropped first posts
    → IsMail bytes (set dropped site (length posts)) first posts
IsMail-drop bytes dropped first site posts within is =
    record {
      ends = is.ends;
      sites = length-set dropped site (length posts) ∙ is.sites;
      counts = All-set (λ count. count ≤ length posts) dropped site (length posts) (omega arith) is.counts;
      done = still-done bytes bytes dropped (set dropped site (length posts)) posts posts first
          (subst (λ posted. position_or_len (λ post. post.fresh) (posts_from bytes dropped 0 0 posts) ≤ position_or_len (λ post. post.fresh) posted)
          (sym (posts-drop bytes dropped 0 0 site (length posts) posts within (omega arith)))
          (drop-later site (posts_from bytes dropped 0 0 posts)))
          is.done;
    }

pub total-of : {total other : ℕ} → SentLimit total ≡ SentLimit other → total ≡ other
total-of is = cc
