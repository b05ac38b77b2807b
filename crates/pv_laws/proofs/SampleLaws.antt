-- With which statuses `sample` ends, by the cases of how a command ends.
use Rattle.std.proofs.Common.{◌≡◌, ◌⊎◌, inl, inr, List, Option, refl, sym, subst}
use Rattle.clap.specs.Words.{Text}
use Rattle.pv_request.specs.Requests.{Asks, Command, samples, RefusesWords}
use Rattle.pv_request.specs.Refusals.{status_of}
use Rattle.pv_rule.specs.Systems.{Files}
use Rattle.pv_product.specs.Campaigns.{Stock}
use Rattle.pv_product.specs.Products.{Product, ComesOf, HasStatus, RefusesSample, RefusesWork}
use Rattle.pv_product.specs.Ends.{Outside, Stream, IsRefusedSo, RefusesDelivery, Tells, in_request, in_words}
use Rattle.pv_laws.specs.StatusLaws.{SampleIsTaken}
use Rattle.pv_request.specs.declared.request.Request.{Request}
use Rattle.pv_request.specs.declared.request.Request.TheVariants.{Sample}
use Rattle.pv_request.specs.declared.refusal.Refusal.{Refusal}
use Rattle.pv_request.specs.declared.refusal.Refusal.TheVariants.{Usage, NotStored, NotPrinted, Memory}
use Rattle.pv_request.specs.declared.status.Status.{Status}
use Rattle.pv_request.specs.declared.status.Status.TheVariants as status
use Rattle.pv_slope.specs.declared.form.Form.{Form}
use Rattle.pv_slope.specs.declared.form.Form.TheVariants.{Plain}
use Rattle.pv_laws.proofs.WordLaws.{AreOneCommand, ask_alike, asking_is_not_refused, command_of}

abbrev IsOfSample : Status → Type 0
IsOfSample s = (s ≡ status.Done) ⊎ ((s ≡ status.WriteFault) ⊎ (s ≡ status.WantOfMemory))

-- of requests, those for a sample
abbrev IsSample : Command → Type 0
IsSample samples = Unit {0}
IsSample c = ⊥

-- whatever form its command has by itself
sample_by : (f g : Form) (q : Request) → IsSample (command_of f q) → IsSample (command_of g q)
sample_by f g (Sample circles) h = tt
sample_by f g q h = absurd h

one_sample : (q r : Request) → AreOneCommand q r → IsSample (command_of Plain q) → IsSample (command_of Plain r)
one_sample q r h sample = sample_by h.other Plain r (subst IsSample h.same (sample_by Plain h.one q sample))

reported : (before : Files) (u v : Stock) (q : Request) (p : Product) (s : Status) → IsSample (command_of Plain q) → ComesOf before u v q p → HasStatus p s → IsOfSample s
reported before u v (Sample circles) p s h comes is = inl (subst (λ (x : Product). HasStatus x s) comes.is is)
reported before u v q p s h comes is = absurd h

not_worked : (before after : Files) (u v : Stock) (q : Request) (r : Refusal) → IsSample (command_of Plain q) → RefusesWork before after u v q r → RefusesSample r
not_worked before after u v (Sample circles) r h work = work
not_worked before after u v q r h work = absurd h

want_of_memory : (r : Refusal) → RefusesSample r → IsOfSample (status_of r)
want_of_memory Memory h = inr (inr refl)
want_of_memory r h = absurd h

not_delivered : (file : Option Text) (p : Product) (before after : Files) (x y : Stream) (r : Refusal) → RefusesDelivery file p before after x y r → IsOfSample (status_of r)
not_delivered file p before after x y (NotStored name) h = inr (inl refl)
not_delivered file p before after x y NotPrinted h = inr (inl refl)
not_delivered file p before after x y Memory h = inr (inr refl)
not_delivered file p before after x y r h = absurd h

module _ (words : List Text) (before after : Outside) (asked : Request) (asks : Asks words asked) (sample : IsSample (command_of Plain asked)) where
  sample_of : (q : Request) → Asks words q → IsSample (command_of Plain q)
  sample_of q h = one_sample asked q (ask_alike words asked q asks h) sample

  words_are_taken : (r : Refusal) → RefusesWords words r → IsOfSample (status_of r)
  words_are_taken Usage h = absurd (asking_is_not_refused words asked asks h)
  words_are_taken Memory h = inr (inr refl)
  words_are_taken r h = absurd h

  refused_so : (r : Refusal) → IsRefusedSo words before after r → IsOfSample (status_of r)
  refused_so r (in_words h same kept) = words_are_taken r h
  refused_so r (in_request q h (inl work) kept) = want_of_memory r (not_worked before.files after.files before.stock after.stock q r (sample_of q h) work.0)
  refused_so r (in_request q h (inr f) kept) = not_delivered _ f.product before.files after.files before.out after.out r f.refused

told : (r : Refusal) (s : Status) (before after : Stream) → IsOfSample (status_of r) → Tells r s before after → IsOfSample s
told r s before after h (inl line) = subst IsOfSample (sym line.0) h
told r s before after h (inr memory) = inr (inr memory.0)

pub sample_is_taken : SampleIsTaken
sample_is_taken words before after s circles asks (inl d) =
    reported before.files before.stock after.stock d.request d.answered.product s (sample_of words before after (Sample circles) asks tt d.request d.asks) d.answered.comes d.answered.is
sample_is_taken words before after s circles asks (inr r) =
    told r.refusal s before.err after.err (refused_so words before after (Sample circles) asks tt r.refusal r.so) r.told
