-- `parts::put_parameters` meets its contract: the length stands behind the count, and the other parameters behind it.
use Rattle.std.proofs.Common.{List, [], ◌∷◌, ◌≡◌, refl, ap, ◌∙◌, arith, ℕ, ◌-◌, drop, length, length-drop, take, take_all}
use Rattle.parameters.specs.Parameters.{parameter_words}
use Rattle.writer.specs.Put.{put}
use Rattle.writer.specs.PutLaws.{put_fits}
use Rattle.padding.specs.PartsLaws.{put-after}
use Rattle.padding.proofs.parts.put_parameters.Goals as goal

-- the part is all words but the first
part : (ws : List ℕ) → take (length ws - 1) (drop 1 ws) ≡ drop 1 ws
part ws = take_all (length ws - 1) (drop 1 ws) (omega (arith, length-drop 1 ws))

pub returns : goal.returns
returns c =
    -- the count stands at the front
    let counted : c.put_same.new.out ≡ put 0 (parameter_words ∷ []) c.args.out.now = c.put_same.ensures ∙ put_fits 0 (parameter_words ∷ []) c.args.out.now (omega (arith, c.requires.1)) in
    let ws = c.args.eight.now in
    let f = c.put_counted.ensures in
    let l = length-drop 1 ws in (
      omega (arith, f.0, ap length (part ws), l, c.requires.0),
      put-after 0 (parameter_words ∷ []) (c.args.long ∷ drop 1 ws) c.args.out.now _ _ 1 counted refl (f.1 ∙ ap (λ (v : List ℕ). put 1 (c.args.long ∷ v) c.put_same.new.out) (part ws)) (omega (arith, l, c.requires.0, c.requires.1)),
    )
