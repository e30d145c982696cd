-- What a new roll, another entry and another head of a chain mean for the links.
use Rattle.std.proofs.Common.{◌≡◌, ℕ, ◌+◌, ◌<◌, true, false, cond, ◌&&◌, ◌==◌, List, [], ◌∷◌, ◌++◌, length, take, get_or, set, replicate, slice_get, Some, None, Option, refl, sym, ap, ◌∙◌, ⊎_elim, length-append, arith}
use Rattle.std.proofs.lemmas.Bool.{cases_eq, cond-true, cond-false}
use Rattle.std.proofs.lemmas.Bool.Decides.{nat_tests}
use Rattle.std.proofs.lemmas.List.{take-append-le, get_or_append_left, get_or-set_same, get_or-set_other, get_or-replicate, length-set}
use Rattle.std.proofs.lemmas.Option.{slice_get_within, get_or_from_slice_get, slice_get_read}
use Rattle.std.proofs.Math.Seq.{take-append_seam, get_or-append_seam}
use Rattle.store.specs.Index.{index_of}
use Rattle.store.proofs.Listed.{placed}
use Rattle.roll.specs.Links.{last_from, newest_place, HeadsNameNewest, LinksNameOlder}
use Rattle.roll.specs.declared.entry.Entry.{Entry}
use Rattle.roll.specs.declared.head.ChainHead.{ChainHead}

last_push : (n k i : ℕ) (p : Option ℕ) (es : List Entry) (e : Entry) → last_from n k i p (es ++ e ∷ []) ≡ cond (n == e.node && k == e.key) (Some (i + length es)) (last_from n k i p es)
last_push n k i p [] e = ap (λ j. cond (n == e.node && k == e.key) (Some j) p) (omega arith)
last_push n k i p (x ∷ es) e =
    last_push n k (i + 1) (cond (n == x.node && k == x.key) (Some i) p) es e
    ∙ ap (λ j. cond (n == e.node && k == e.key) (Some j) (last_from n k i p (x ∷ es))) (omega arith)

pub place_push : (n k : ℕ) (es : List Entry) (e : Entry) → newest_place n k (es ++ e ∷ []) ≡ cond (n == e.node && k == e.key) (Some (length es)) (newest_place n k es)
unfolding newest_place
place_push n k es e =
    last_push n k 0 None es e ∙ ap (λ j. cond (n == e.node && k == e.key) (Some j) (last_from n k 0 None es)) (omega arith)

own : (n k : ℕ) → (n == n && k == k) ≡ true
own n k = grind (arith, nat_tests)

-- What is read of a list with one element more.
pub read_before : {A : Type 0} (xs : List A) (y : A) (i : ℕ) (x : A) → slice_get (xs ++ y ∷ []) i ≡ Some x → i < length xs → slice_get xs i ≡ Some x
read_before xs y i x read below =
    slice_get_read xs (length xs) i x refl below (sym (get_or_from_slice_get (xs ++ y ∷ []) i x x read) ∙ get_or_append_left xs (y ∷ []) x i below)

pub read_last : {A : Type 0} (xs : List A) (y : A) (i : ℕ) (x : A) → slice_get (xs ++ y ∷ []) i ≡ Some x → i ≡ length xs → x ≡ y
read_last xs y i x read last =
    sym (get_or_from_slice_get (xs ++ y ∷ []) i x x read) ∙ ap (λ j. get_or (xs ++ y ∷ []) j x) last ∙ get_or-append_seam xs y [] x

-- One entry more.
pub linked_push : (es : List Entry) (e : Entry) → LinksNameOlder es → e.older ≡ newest_place e.node e.key es → LinksNameOlder (es ++ e ∷ [])
linked_push es e linked older i x read =
    let within = slice_get_within (es ++ e ∷ []) i x read in
    let long = length-append es (e ∷ []) in
    ⊎_elim
    (λ (last : i ≡ length es).
    let is : x ≡ e = read_last es e i x read last in
    let before : take i (es ++ e ∷ []) ≡ es = ap (λ j. take j (es ++ e ∷ [])) last ∙ take-append_seam es (e ∷ []) in
    ap (λ (y : Entry). y.older) is ∙ older ∙ ap (λ (y : Entry). newest_place y.node y.key es) (sym is) ∙ ap (newest_place x.node x.key) (sym before))
    (λ (other : i ≡ length es → ⊥).
    let below : i < length es = omega arith in
    linked i x (read_before es e i x read below) ∙ ap (newest_place x.node x.key) (sym (take-append-le i es (e ∷ []) (omega arith))))
    (cases_eq i (length es))

-- Another head of one chain, where the newest entries of all other chains stand where they stood.
pub heads_write : (hs : List ChainHead) (es ds : List Entry) (node key i : ℕ) (y : ChainHead) → HeadsNameNewest hs es → index_of node key ≡ Some i → i < length hs → y.newest ≡ newest_place node key ds → ((n k : ℕ) → (n == node && k == key) ≡ false → newest_place n k ds ≡ newest_place n k es) → HeadsNameNewest (set hs i y) ds
heads_write hs es ds node key i y headed at below newest others n k j c there read =
    let here = placed node key i at in
    let asked = placed n k j there in
    ⊎_elim
    (λ (same : j ≡ i).
    let is : c ≡ y = sym (get_or_from_slice_get (set hs i y) j c c read) ∙ ap (λ m. get_or (set hs i y) m c) same ∙ get_or-set_same hs i y c below in
    let node_is : node ≡ n = omega arith in
    let key_is : key ≡ k = omega arith in
    ap (λ (h : ChainHead). h.newest) is ∙ newest ∙ ap (λ m. newest_place m key ds) node_is ∙ ap (λ m. newest_place n m ds) key_is)
    (λ (other : j ≡ i → ⊥).
    let within = slice_get_within (set hs i y) j c read in
    let apart : (n == node && k == key) ≡ false = grind (arith, nat_tests) in
    let kept : c ≡ get_or hs j c = sym (get_or_from_slice_get (set hs i y) j c c read) ∙ get_or-set_other hs i j y c other in
    headed n k j c there (slice_get_read hs (length hs) j c refl (omega (arith, length-set hs i y)) kept) ∙ sym (others n k apart))
    (cases_eq j i)

-- A chain of a roll with another number of places set aside names its newest entry still.
pub heads_aside : (hs : List ChainHead) (es : List Entry) (node key i : ℕ) (x y : ChainHead) → HeadsNameNewest hs es → index_of node key ≡ Some i → i < length hs → x ≡ get_or hs i x → y.newest ≡ x.newest → HeadsNameNewest (set hs i y) es
heads_aside hs es node key i x y headed at below raw same =
    heads_write hs es es node key i y headed at below (same ∙ headed node key i x at (slice_get_read hs (length hs) i x refl below raw)) (λ n k apart. refl)

-- The chain of one entry more names that entry.
pub heads_push : (hs : List ChainHead) (es : List Entry) (e : Entry) (i : ℕ) (y : ChainHead) → HeadsNameNewest hs es → index_of e.node e.key ≡ Some i → i < length hs → y.newest ≡ Some (length es) → HeadsNameNewest (set hs i y) (es ++ e ∷ [])
heads_push hs es e i y headed at below newest =
    heads_write hs es (es ++ e ∷ []) e.node e.key i y headed at below
    (newest ∙ sym (place_push e.node e.key es e ∙ cond-true _ _ _ (own e.node e.key)))
    (λ n k apart. place_push n k es e ∙ cond-false _ _ _ apart)

pub heads_fresh : (hs : List ChainHead) (x : ChainHead) → hs ≡ replicate 512 x → x.newest ≡ None → HeadsNameNewest hs []
unfolding newest_place
heads_fresh hs x all none n k i c at read =
    let p = placed n k i at in
    let is : c ≡ x = sym (get_or_from_slice_get hs i c c read) ∙ ap (λ l. get_or l i c) all ∙ get_or-replicate 512 i x c (omega arith) in
    ap (λ (h : ChainHead). h.newest) is ∙ none

pub linked_fresh : LinksNameOlder []
linked_fresh i e read = absurd (omega (arith, slice_get_within [] i e read))

-- What is read of a chain names its newest entry.
pub newest_read : (hs : List ChainHead) (es : List Entry) (node key i : ℕ) (x : ChainHead) → HeadsNameNewest hs es → length hs ≡ 512 → index_of node key ≡ Some i → x ≡ get_or hs i x → x.newest ≡ newest_place node key es
newest_read hs es node key i x headed long at raw =
    let p = placed node key i at in
    headed node key i x at (slice_get_read hs (length hs) i x refl (omega arith) raw)
