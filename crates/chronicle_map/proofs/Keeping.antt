-- Demand 3: any list of calls on an accepted image.
use Prim.Native.Nat.{ℕ, ◌≤◌, ◌<◌}
use mathlib.Core.List.{List, [], ◌∷◌, Memᴰ}
use mathlib.Core.Path.{◌≡◌, refl, ap, sym, ◌∙◌}
use mathlib.Core.Logic.{◌≢◌, ◌⊎◌, inl, inr, ⊎_elim}
use native.Mathlib.Omega.{arith}
use lib.ListN.{length, length-map}
use Rattle.lists.specs.Cases.{same_or}
use Rattle.lists.specs.Lists.{how_many, total}
use Rattle.lists.specs.Runs.{after_all, on_each}
use Rattle.lists.proofs.Totals.{how_many-total}
use Rattle.words.specs.Bytes.{Bytes}
use Rattle.settings.specs.declared.Settings.{Settings}
use Rattle.settings.specs.Block.{settings_of}
use Rattle.layout.specs.declared.Shape.{Shape}
use Rattle.layout.specs.Places.{mark}
use Rattle.layout.proofs.Frames.{shape-settings}
use Rattle.layout.proofs.Marks.{mark-lt}
use Rattle.chains.specs.Chains.{chain, chained}
use Rattle.entries.specs.Stored.{chunks_for}
use Rattle.entries.specs.Live.{live}
use Rattle.entries.specs.Pairs.{pair_of, pairs_of}
use Rattle.chains.proofs.Chained.{chained_in, extra-once}
use Rattle.sound.proofs.KeyCounts.{with_key, keys-once}
use Rattle.sound.proofs.Marked.{marked-sum}
use Rattle.image.specs.declared.Counts.{Counts}
use Rattle.image.specs.declared.Outcome.TheVariants as outcome
use Rattle.image.specs.Check.{counts_of, check}
use Rattle.chronicle_map.specs.History.{Call, leaves, told_of, run, answers, told, Map, has_key, map_of, recall, map_answers, map_after}
use Rattle.chronicle_map.specs.Demands.{Accepted, ByteCalls, shape, covers_in, Keeps}
use Rattle.chronicle_map.proofs.Weights.{Weigh, weigh_in, weigh-length}
use Rattle.chronicle_map.proofs.Accepting.{Holds, holds-accepted, holds-counts, accepted-holds}
use Rattle.chronicle_map.proofs.Steps.{Step, step}
use Rattle.chronicle_map.proofs.Covered.{covered-live}

-- ---- the whole list, by its first call

module _ (block : List ℕ) where
  pub same-answers : (calls : List Call) (img : List ℕ) (m : Map) → Holds block img → Weigh (map_of block img) m → ByteCalls calls
      → answers block img calls ≡ map_answers (settings_of block) m calls (told block img calls)
  unfolding on_each map_answers
  same-answers [] img m h w b = refl
  same-answers (c ∷ cs) img m h w b =
      let s : Step block img h m w c = step block img h m w c b.0 in
      let rest : answers block (leaves block img c) cs
      ≡ map_answers (settings_of block) (recall (settings_of block) m c (told_of block img c)).map cs (told block (leaves block img c) cs) =
      same-answers cs (leaves block img c) (recall (settings_of block) m c (told_of block img c)).map s.holds s.weighs b.1 in
      λ i. s.said i ∷ rest i

  pub record After (img : List ℕ) (m : Map) : Type 0 where
    pub holds : Holds block img
    pub weighs : Weigh (map_of block img) m

  pub after : (calls : List Call) (img : List ℕ) (m : Map) → Holds block img → Weigh (map_of block img) m → ByteCalls calls
      → After (run block img calls) (map_after (settings_of block) m calls (told block img calls))
  unfolding after_all on_each map_after
  after [] img m h w b = record { holds = h; weighs = w }
  after (c ∷ cs) img m h w b =
      let s : Step block img h m w c = step block img h m w c b.0 in
      after cs (leaves block img c) (recall (settings_of block) m c (told_of block img c)).map s.holds s.weighs b.1

-- ---- what an image and a map say that agree

module _ (block img : List ℕ) (m : Map) (h : Holds block img) (w : Weigh (map_of block img) m) where
  abbrev z : Shape
  z = shape block img

  open z use {settings}
  open settings use {segments, chunks}

  covered : (t i : ℕ) → Memᴰ t (chained z img) → i < chunks
      → ((mark z img t i ≡ 1) × (how_many (live z img) (covers_in t i) ≡ 1)) ⊎ ((mark z img t i ≡ 0) × (how_many (live z img) (covers_in t i) ≡ 0))
  covered t i mt hi =
      let c : (s : ℕ) × (s < segments) × Memᴰ t (chain z img s) = chained_in z img h.sound.fits.chains t mt in
      let e : how_many (live z img) (covers_in t i) ≡ mark z img t i =
      covered-live z img h.sound.fits.chains c.0 t i c.1 c.2 ∙ (h.sound.fits.chunks.tiers_fit c.0 c.1 t c.2).marks i hi in
      ⊎_elim
      (λ (q : mark z img t i ≡ 0). inr (q, e ∙ q))
      (λ (q : mark z img t i ≢ 0). let one : mark z img t i ≡ 1 = omega (arith, mark-lt z img t i) in inl (one, e ∙ one))
      (same_or (mark z img t i) 0)

  as_many : length (live z img) ≡ length m
  unfolding pairs_of
  as_many = sym (length-map (live z img) (pair_of img)) ∙ weigh-length (pairs_of z img) m w

  keys : (key : List ℕ) → how_many (pairs_of z img) (has_key key) ≤ 1
  unfolding has_key with_key
  keys key = omega (arith, how_many-total (pairs_of z img) (has_key key), keys-once z img h.sound key)

  pub marked : (c : Counts) → check block img ≡ record { outcome = outcome.Accepted c }
      → c.chunks ≡ total m (λ p. chunks_for settings (length p.key) (length p.value))
  unfolding counts_of
  marked c e =
      ap (λ (x : Counts). x.chunks) (holds-counts block img h c e) ∙ marked-sum z img h.sound
      ∙ w (λ p. chunks_for settings (length p.key) (length p.value))

-- ---- demand 3

pub history : (block img : List ℕ) → Bytes img → Accepted block img → (calls : List Call) → ByteCalls calls → Keeps block img calls
history block img b a calls bytes =
    record {
      same_answers = same-answers block calls img (map_of block img) h (λ F. refl) bytes;
      accepted = holds-accepted block end h';
      in_map = weigh_in (map_of block end) m w';
      in_image = weigh_in m (map_of block end) (λ F. sym (w' F));
      as_many = as_many block end m h' w';
      keys_once = keys block end m h' w';
      chunks_covered = λ t i mt hi. covered block end m h' w' t i mt (rw (shape-settings (settings_of block) end) hi);
      tiers_once = extra-once (shape block end) end h'.sound.fits.chains;
      marked_chunks = λ c e.
          marked block end m h' w' c e
          ∙ ap (λ (x : Settings). total m (λ p. chunks_for x (length p.key) (length p.value))) (shape-settings (settings_of block) end);
    }
  where
    m : Map
    m = map_after (settings_of block) (map_of block img) calls (told block img calls)

    end : List ℕ
    end = run block img calls

    h : Holds block img
    h = accepted-holds block img b a

    r : After block end m
    r = after block calls img (map_of block img) h (λ F. refl) bytes

    h' : Holds block end
    h' = r.holds

    w' : Weigh (map_of block end) m
    w' = r.weighs
