-- What a write to the roll does to its meaning.
use Rattle.std.specs.Prelude.{◌≡◌, ℕ, ◌+◌, ◌*◌, ◌<◌, ◌≤◌, Bool, true, false, cond, ◌&&◌, List, [], ◌∷◌, ◌++◌, length, replicate, fold, ◌==◌, nat_eq, slice_set, refl}
use Rattle.std.proofs.Common.{◌∙◌, ap, arith}
use Rattle.std.proofs.Math.Path.{fun_ext}
use Rattle.std.proofs.lemmas.List.{get_or-set_same, get_or-set_other, get_or-replicate}
use Rattle.std.proofs.lemmas.List.Sums.{fold_push}
use Rattle.std.proofs.lemmas.Bool.Decides.{nat_tests}
use Rattle.store.specs.declared.Version.{Version}
use Rattle.store.specs.Model.{Chain, with_chain, first_version, fresh}
use Rattle.roll.specs.Entries.{entered, versions_of, with_entry, aside_at}
use Rattle.roll.specs.declared.entry.Entry.{Entry}

abbrev pub chain : List Version → ℕ → Chain
chain vs a = record { versions = vs; aside = a }

aside_set_at : (ps : List ℕ) (node key a : ℕ) → node < 8 → key < 64 → length ps ≡ 512 → (n k : ℕ) → aside_at (slice_set ps (node * 64 + key) a) n k ≡ cond (n == node && k == key) a (aside_at ps n k)
aside_set_at ps node key a hn hk long n k =
    let same = get_or-set_same ps (node * 64 + key) a 0 (omega arith) in
    let other = get_or-set_other ps (node * 64 + key) (n * 64 + k) a 0 in
    grind (arith, nat_tests, same, other)

both : (b : Bool) (vs ws : List Version) (a d : ℕ) → chain (cond b ws vs) (cond b a d) ≡ cond b (chain ws a) (chain vs d)
both true vs ws a d = refl
both false vs ws a d = refl

-- One chain is written: its versions, or the places set aside for it.
write_at : (vs ws : ℕ → ℕ → List Version) (xs : List Version) (ps qs : ℕ → ℕ → ℕ) (a node key : ℕ)
    → ((n k : ℕ) → ws n k ≡ cond (n == node && k == key) xs (vs n k)) → ((n k : ℕ) → qs n k ≡ cond (n == node && k == key) a (ps n k)) → (n k : ℕ)
    → chain (ws n k) (qs n k) ≡ with_chain (λ i j. chain (vs i j) (ps i j)) node key (chain xs a) n k
write_at vs ws xs ps qs a node key ws_is qs_is n k =
    let b = n == node && nat_eq k key in
    ap (λ v. chain v (qs n k)) (ws_is n k) ∙ ap (chain (cond b xs (vs n k))) (qs_is n k) ∙ both b (vs n k) xs a (ps n k)

same_versions : (es : List Entry) (node key n k : ℕ) → versions_of n k es ≡ cond (n == node && k == key) (versions_of node key es) (versions_of n k es)
same_versions es node key n k = grind (arith, nat_tests)

same_aside : (ps : List ℕ) (node key n k : ℕ) → aside_at ps n k ≡ cond (n == node && k == key) (aside_at ps node key) (aside_at ps n k)
same_aside ps node key n k = grind (arith, nat_tests)

one_more : (es : List Entry) (e : Entry) (n k : ℕ) → versions_of n k (es ++ e ∷ []) ≡ cond (n == e.node && k == e.key) (e.version ∷ versions_of e.node e.key es) (versions_of n k es)
one_more es e n k =
    let pushed = fold_push (with_entry n k) (first_version ∷ []) es e in
    grind (arith, nat_tests, pushed)

pub aside_written : (es : List Entry) (ps : List ℕ) (node key a : ℕ) → node < 8 → key < 64 → length ps ≡ 512 → entered es (slice_set ps (node * 64 + key) a) ≡ with_chain (entered es ps) node key (chain (versions_of node key es) a)
unfolding entered
aside_written es ps node key a hn hk long =
    fun_ext (λ n. fun_ext (λ k.
    write_at (λ i j. versions_of i j es) (λ i j. versions_of i j es) (versions_of node key es) (aside_at ps) (aside_at (slice_set ps (node * 64 + key) a)) a node key
    (same_versions es node key) (aside_set_at ps node key a hn hk long) n k))

pub entry_pushed : (es : List Entry) (ps : List ℕ) (e : Entry) → entered (es ++ e ∷ []) ps ≡ with_chain (entered es ps) e.node e.key (chain (e.version ∷ versions_of e.node e.key es) (aside_at ps e.node e.key))
unfolding entered
entry_pushed es ps e =
    fun_ext (λ n. fun_ext (λ k.
    write_at (λ i j. versions_of i j es) (λ i j. versions_of i j (es ++ e ∷ [])) (e.version ∷ versions_of e.node e.key es) (aside_at ps) (aside_at ps) (aside_at ps e.node e.key) e.node e.key
    (one_more es e) (same_aside ps e.node e.key) n k))

none_at : (n k : ℕ) → aside_at (replicate 512 0) n k ≡ 0
none_at n k =
    let there = get_or-replicate {A = ℕ} 512 (n * 64 + k) 0 0 in
    grind (arith, nat_tests, there)

pub entered_fresh : entered [] (replicate 512 0) ≡ fresh
unfolding entered
entered_fresh = fun_ext (λ n. fun_ext (λ k. ap (chain (first_version ∷ [])) (none_at n k)))

-- A chain holds the first version, and at most as many others as there are entries.
longer : (b : Bool) (v : Version) (vs : List Version) (x : ℕ) → 0 < length vs → length vs ≤ x → (0 < length (cond b (v ∷ vs) vs)) × (length (cond b (v ∷ vs) vs) ≤ x + 1)
longer true v vs x h l = (omega arith, omega arith)
longer false v vs x h l = (h, omega arith)

filled : (n k : ℕ) (es : List Entry) (vs : List Version) (x : ℕ) → 0 < length vs → length vs ≤ x → (0 < length (fold (with_entry n k) vs es)) × (length (fold (with_entry n k) vs es) ≤ x + length es)
filled n k [] vs x h l = (h, omega arith)
filled n k (e ∷ es) vs x h l =
    let one = longer (n == e.node && k == e.key) e.version vs x h l in
    let rest = filled n k es (with_entry n k vs e) (x + 1) one.0 one.1 in
    (rest.0, omega arith)

pub versions_length : (n k : ℕ) (es : List Entry) → (0 < length (versions_of n k es)) × (length (versions_of n k es) ≤ 1 + length es)
versions_length n k es = filled n k es (first_version ∷ []) 1 (omega arith) (omega arith)
