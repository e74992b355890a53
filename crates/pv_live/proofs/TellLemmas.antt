-- The lines of clients, one after another.
use Rattle.std.proofs.Common.{◌≡◌, ℕ, ◌+◌, ◌<◌, ◌≤◌, suc, Vec, List, ◌∷◌, ◌++◌, length, drop, drop-cons, get_or, sym, ap, ◌∙◌, add-one, append_assoc, arith}
use Rattle.std.proofs.lemmas.List.{append-nil, drop_all}
use Rattle.std.specs.declared.alloc.Global.{Global}
use Rattle.pv_base.specs.Catalog.{Declared}
use Rattle.pv_script.specs.declared.live.Client.{Client}
use Rattle.pv_told.specs.declared.line.ClientLine.{ClientLine}
use Rattle.pv_transcript.specs.Heard.{client_text, clients_text, heard_line}
use Rattle.pv_live.specs.Told.{all_heard_by, heard_by, heard_of}

-- What a place holds comes next.
next-is : {A : Type 0} (xs : List A) (i : ℕ) (x : A) → i < length xs → x ≡ get_or xs i x → drop i xs ≡ x ∷ drop (i + 1) xs
next-is xs i x below is =
    drop-cons xs i x below ∙ ap (λ next. next ∷ drop (suc i) xs) (sym is) ∙ ap (λ k. x ∷ drop k xs) (sym (add-one i))

-- A piece is written, and what is left begins with it.
one-written : (whole text after piece more left : List ℕ) → whole ≡ text ++ left → left ≡ piece ++ more → after ≡ text ++ piece → whole ≡ after ++ more
one-written whole text after piece more left is begins written =
    is ∙ ap (λ rest. text ++ rest) begins ∙ sym (append_assoc text piece more) ∙ ap (λ front. front ++ more) (sym written)

module _ (catalog : Declared) where
  module _ (client site : ℕ) (told : List ClientLine) where
    -- the lines of the requests from this one on
    abbrev pub requests_left : ℕ → List ℕ
    requests_left i = client_text catalog client i (all_heard_by site (drop i told))

    pub request-next : (i : ℕ) (one : ClientLine) (whole text after : List ℕ) → i < length told → one ≡ get_or told i one → whole ≡ text ++ requests_left i
        → after ≡ text ++ heard_line catalog client i (heard_by site one.what) → whole ≡ after ++ requests_left (i + 1)
    request-next i one whole text after below is so_far written =
        let now = heard_line catalog client i (heard_by site one.what) in
        let more : 1 + i ≡ i + 1 = omega arith in
        let begins : requests_left i ≡ now ++ requests_left (i + 1) =
        ap (λ (lines : List ClientLine). client_text catalog client i (all_heard_by site lines)) (next-is told i one below is)
        ∙ ap (λ k. now ++ client_text catalog client k (all_heard_by site (drop (i + 1) told))) more in
        one-written whole text after now (requests_left (i + 1)) (requests_left i) so_far begins written

    -- No request is left.
    pub requests-end : (i : ℕ) (first text : List ℕ) → length told ≤ i → first ++ requests_left 0 ≡ text ++ requests_left i → text ≡ first ++ requests_left 0
    requests-end i first text past is =
        sym (is ∙ ap (λ (lines : List ClientLine). text ++ client_text catalog client i (all_heard_by site lines)) (drop_all i told past) ∙ append-nil text)

  module _ (clients : List Client) (told : List (Vec ClientLine Global)) where
    -- the lines of the clients from this one on
    abbrev pub clients_left : ℕ → List ℕ
    clients_left i = clients_text catalog i (heard_of (drop i clients) (drop i told))

    pub client-next : (i : ℕ) (client : Client) (lines : Vec ClientLine Global) (whole text after : List ℕ) → i < length clients → client ≡ get_or clients i client
        → i < length told → lines ≡ get_or told i lines → whole ≡ text ++ clients_left i
        → after ≡ text ++ client_text catalog i 0 (all_heard_by client.site.0 lines.items) → whole ≡ after ++ clients_left (i + 1)
    client-next i client lines whole text after below is within its so_far written =
        let now = client_text catalog i 0 (all_heard_by client.site.0 lines.items) in
        let more : 1 + i ≡ i + 1 = omega arith in
        let begins : clients_left i ≡ now ++ clients_left (i + 1) =
        (λ j. clients_text catalog i (heard_of (next-is clients i client below is j) (next-is told i lines within its j)))
        ∙ ap (λ k. now ++ clients_text catalog k (heard_of (drop (i + 1) clients) (drop (i + 1) told))) more in
        one-written whole text after now (clients_left (i + 1)) (clients_left i) so_far begins written

    -- No client is left.
    pub clients-end : (i : ℕ) (first text : List ℕ) → length clients ≤ i → first ++ clients_left 0 ≡ text ++ clients_left i → text ≡ first ++ clients_left 0
    clients-end i first text past is =
        sym (is ∙ ap (λ (left : List Client). text ++ clients_text catalog i (heard_of left (drop i told))) (drop_all i clients past) ∙ append-nil text)
