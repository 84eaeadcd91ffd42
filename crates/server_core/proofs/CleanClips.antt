-- A clipboard for which a screen isn't dirty.
use Rattle.std.specs.Prelude.{◌≡◌, refl, ℕ, Bool, true, false, not, ◌||◌, ◌==◌, cond, List, [], ◌∷◌}
use Rattle.std.proofs.Common.{ap, ◌∙◌}
use Rattle.share_base.specs.declared.clip_id.ClipId.{ClipId}
use Rattle.share_base.specs.declared.clip_id.ClipId.TheVariants.{Clipboard, Selection}
use Rattle.clip_chunks.specs.Clips.{Clip, Clips, clip_of, with_clip, without, is_among, is_dirty}
use Rattle.clip_chunks.specs.Rules.{entered}

without_none : (xs : List ℕ) (n : ℕ) → is_among xs n ≡ false → without xs n ≡ xs
without_none [] n h = refl
without_none (x ∷ xs) n h = by (x == n) h (without_none xs n)
  where
    by : (b : Bool) → (b || is_among xs n) ≡ false → (is_among xs n ≡ false → without xs n ≡ xs) → cond (not b) (x ∷ without xs n) (without xs n) ≡ x ∷ xs
    by true h later = absurd (let x : ⊥ = cc in x)
    by false h later = ap (λ ys. x ∷ ys) (later h)

entered_clean : (screen : ℕ) (c : Clip) → is_dirty screen c ≡ false → entered screen c ≡ c
entered_clean screen c h = ap (λ ns. record c { dirty = ns }) (without_none c.dirty screen h)

same_clips : (id : ClipId) (clips : Clips) → with_clip id (clip_of id clips) clips ≡ clips
same_clips Clipboard clips = refl
same_clips Selection clips = refl

-- entering it changes nothing
pub clean-clips : (id : ClipId) (screen : ℕ) (clips : Clips) → is_dirty screen (clip_of id clips) ≡ false → with_clip id (entered screen (clip_of id clips)) clips ≡ clips
clean-clips id screen clips h = ap (λ c. with_clip id c clips) (entered_clean screen (clip_of id clips) h) ∙ same_clips id clips
