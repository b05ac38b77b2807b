-- Why there is no picture, by the step that refuses.
use Rattle.std.proofs.Common.{ℕ, inl, inr}
use Rattle.clap.specs.Words.{Text}
use Rattle.pv_rule.specs.Systems.{Files}
use Rattle.pv_product.specs.Products.{HasNoPicture, RefusesSvg}
use Rattle.pv_view.specs.Scenes.{RefusesScene}
use Rattle.pv_request.specs.declared.request.Settings.{Settings}
use Rattle.pv_request.specs.declared.request.View.{View}
use Rattle.pv_request.specs.declared.refusal.Refusal.{Refusal}
use Rattle.pv_request.specs.declared.refusal.Refusal.TheVariants.{Usage, System, Contract, Objective, NoFile, ReadFault, Paving, NotStored, KeeperFault, NotPrinted, Memory, TreeLimit, Disagree, Differs}

module _ (before after : Files) (system : Text) (s : Settings) (v : View) (limit : ℕ) where
  pub scene_refused : (name : Text) (r : Refusal) → RefusesScene before after system s v r → RefusesSvg before after system name s limit v r
  scene_refused name Usage h = h
  scene_refused name (System line column byte cause) h = inl h
  scene_refused name (Contract byte) h = inl h
  scene_refused name (Objective byte cause) h = inl h
  scene_refused name (NoFile n) h = inl h
  scene_refused name (ReadFault n) h = inl h
  scene_refused name (Paving n f) h = inl h
  scene_refused name (NotStored n) h = inl h
  scene_refused name (KeeperFault n) h = inl h
  scene_refused name NotPrinted h = inl h
  scene_refused name Memory h = inl h
  scene_refused name (TreeLimit n) h = inl h
  scene_refused name (Disagree p a b) h = inl h
  scene_refused name (Differs p a b) h = inl h

  pub picture_refused : (name : Text) (r : Refusal) → HasNoPicture before after system name s limit v r → RefusesSvg before after system name s limit v r
  picture_refused name Usage h = absurd h.refused
  picture_refused name (System line column byte cause) h = inr h
  picture_refused name (Contract byte) h = inr h
  picture_refused name (Objective byte cause) h = inr h
  picture_refused name (NoFile n) h = inr h
  picture_refused name (ReadFault n) h = inr h
  picture_refused name (Paving n f) h = inr h
  picture_refused name (NotStored n) h = inr h
  picture_refused name (KeeperFault n) h = inr h
  picture_refused name NotPrinted h = inr h
  picture_refused name Memory h = inr h
  picture_refused name (TreeLimit n) h = inr h
  picture_refused name (Disagree p a b) h = inr h
  picture_refused name (Differs p a b) h = inr h
