-- What the current folder as a tree shows.
use Rattle.std.specs.Prelude.{ℕ}
use Rattle.stan_outside.specs.declared.folder_tree.FolderTree.{FolderTree}

-- how often the system has failed
abbrev pub folder_faults : {R File Folder : Type 0} → FolderTree R File Folder → ℕ
folder_faults tree = tree.faults

-- how often it was listed, and how often a file was read
abbrev pub folder_listings : {R File Folder : Type 0} → FolderTree R File Folder → ℕ
folder_listings tree = tree.listings

abbrev pub folder_reads : {R File Folder : Type 0} → FolderTree R File Folder → ℕ
folder_reads tree = tree.reads
